-- What a bench that adopted a publication asked, out of what is said of its publication.
use Rattle.std.proofs.Common.{◌≡◌, ℕ, List, [], Option, None, Some, Result, subst, sym}
use Rattle.std.specs.Prelude.{IfSome, IsSome}
use Rattle.kr_base.specs.Walks.{Talk}
use Rattle.kr_config.specs.Kept.{ConfigEntry}
use Rattle.kr_kms.specs.Cache.{CacheState}
use Rattle.kr_kms.specs.Exchanges.{Exchange}
use Rattle.kr_kms.specs.declared.seeds.SeedRow.{SeedRow}
use Rattle.kr_provider.specs.AskedLinks.{Among}
use Rattle.kr_provider.specs.Exchanges.{ReadsBy}
use Rattle.kr_provider.specs.Publication.{Publication, list_at}
use Rattle.kr_provider.specs.declared.refusal.Opened.{Opened}
use Rattle.kr_provider.specs.declared.refusal.UnsealNo.{UnsealNo}
use Rattle.kr_cmd_steps.specs.Environment.{Environment, with_exchanges}
use Rattle.kr_cmd_steps.specs.Steps.{Steps}
use Rattle.kr_cmd_steps.specs.inner.Phases.{Does}
use Rattle.kr_cmd_messages.specs.declared.refusal.Outcome.{Outcome}
use Rattle.kr_cmd_messages.specs.declared.refusal.Stop.{Stop}
use Rattle.kr_cmd_steps.proofs.Hearing.{none_heard}

pub both_some : (P Q : Publication → Type 0) (published : Option Publication)
    → IfSome published P → IfSome published Q → IfSome published (λ p. P p × Q p)
both_some P Q None p q = tt
both_some P Q (Some x) p q = (p, q)

-- nothing was asked
pub none_made : (steps : List ConfigEntry → List ℕ → List SeedRow → Steps Outcome) (bytes : List ℕ)
    (published : Option Publication) (old new : Environment) (made : Result Outcome Stop)
    → IfSome published (λ p. Does (steps p.rows bytes p.seeds) old new made)
    → IfSome published (λ p. Does (steps p.rows bytes p.seeds) old (with_exchanges [] new) made)
none_made steps bytes None old new made d = tt
none_made steps bytes (Some p) old new made d = none_heard new d

-- it read a value
pub talk_read : {L : Type 0} (step : L → Exchange → L → Type 0) (published : Option Publication)
    (resource path bytes : List ℕ) (olds news : List L) (cache : CacheState)
    (result : Result Opened UnsealNo) (after : CacheState) → IsSome published
    → IfSome published (λ p. Talk (Among step) olds news
    (ReadsBy p.seeds (list_at p resource) path bytes cache result after))
    → Talk (Among step) olds news (λ es. IfSome published (λ p.
    ReadsBy p.seeds (list_at p resource) path bytes cache result after es))
talk_read step None resource path bytes olds news cache result after some t = absurd (cc)
talk_read step (Some p) resource path bytes olds news cache result after some t = t
