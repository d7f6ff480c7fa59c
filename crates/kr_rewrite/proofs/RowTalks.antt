-- By which exchanges a row that was found was rewritten, and a step went.
use Rattle.std.specs.Prelude.{IfSome}
use Rattle.std.proofs.Common.{◌≡◌, ℕ, List, [], Option, Some, Result, sym, append-nil}
use Rattle.kr_base.specs.Walks.{Talk}
use Rattle.kr_base.proofs.Walks.{talk_none, talk_so}
use Rattle.kr_kms.specs.Cache.{CacheState}
use Rattle.kr_kms.specs.Exchanges.{Exchange}
use Rattle.kr_provider.specs.BenchState.{BenchState}
use Rattle.kr_provider.specs.Exchanges.{ReadsBy}
use Rattle.kr_provider.specs.Publication.{Publication, list_at}
use Rattle.kr_provider.specs.declared.refusal.Opened.{Opened}
use Rattle.kr_provider.specs.declared.refusal.UnsealNo.{UnsealNo}
use Rattle.kr_store.specs.declared.rows.Row.{Row}
use Rattle.kr_history.specs.declared.call.CallNo.{CallNo}
use Rattle.kr_history.specs.Acting.{Caller}
use Rattle.kr_history.specs.Calls.{LetsGo}
use Rattle.kr_history.specs.TakingUp.{HasTakenUp}
use Rattle.kr_history.proofs.Meanwhile.{of_taken}
use Rattle.kr_rewrite.specs.DriveExchanges.{IsStepBy, ReadsRow, before, behind}
use Rattle.kr_rewrite.specs.declared.outcome.Step.{Step}
use Rattle.kr_rewrite.specs.inner.Stages.{StepsBy}
use Rattle.kr_rewrite.proofs.Options.{holds_at, holds_of}
use Rattle.kr_rewrite.proofs.Rewriting.{step_held}

pub reads_row : (p : Publication) (row : Row) (cache kept : CacheState)
    (opened : Result Opened UnsealNo) (exchanges : List Exchange)
    → ReadsBy p.seeds (list_at p row.resource) row.path row.stored cache opened kept exchanges
    → ReadsRow p row (before cache exchanges) opened (behind kept)
reads_row p row cache kept opened exchanges r = record {
  first = exchanges;
  are = sym (append-nil exchanges);
  reads = r;
}

-- ---- what is said by the configuration that the bench adopted

module _ {L : Type 0} (step : L → Exchange → L → Type 0) (published : Option Publication)
    (p : Publication) (is : published ≡ Some p) where
  pub talk_by : (A B : Publication → List Exchange → Type 0) (links news : L)
      → IfSome published (λ q. Talk step links news (A q))
      → ((exchanges : List Exchange) → A p exchanges → B p exchanges)
      → IfSome published (λ q. Talk step links news (B q))
  talk_by A B links news t so = holds_at (λ q. Talk step links news (B q)) published p is
      (talk_so step (A p) (B p) links news
      (holds_of (λ q. Talk step links news (A q)) published p is t) so)

  pub nothing_by : (B : Publication → List Exchange → Type 0) (links : L) → B p []
      → IfSome published (λ q. Talk step links links (B q))
  nothing_by B links h = holds_at (λ q. Talk step links links (B q)) published p is
      (talk_none step (B p) links h)

-- the stages of a step, one behind another
pub step_talked : {L D : Type 0} {replica : ℕ} {old adopted : Caller}
    {before_it taken : BenchState L D} (t : HasTakenUp replica old before_it adopted taken)
    (step : List L → Exchange → List L → Type 0) (left : D → Option (List ℕ)) (count : D → ℕ)
    (above copy : List ℕ) (acted new : Caller) (worked : BenchState L D)
    (done result : Result Step CallNo) → copy ≡ above
    → IfSome taken.published (λ p. Talk step taken.links worked.links
    (StepsBy left count p copy adopted taken.cache taken.dice done acted worked.cache worked.dice))
    → LetsGo acted done result new
    → Talk step taken.links worked.links (IsStepBy left count replica above old taken.cache
    taken.dice result new worked.cache worked.dice)
step_talked {L} {D} {replica} {old} {adopted} {before_it} {taken} t step left count above copy acted
    new worked done result own f g =
    talk_so step (StepsBy left count t.p copy adopted taken.cache taken.dice done acted worked.cache
    worked.dice) (IsStepBy left count replica above old taken.cache taken.dice result new
    worked.cache worked.dice) taken.links worked.links (of_taken t (λ p. Talk step taken.links
    worked.links (StepsBy left count p copy adopted taken.cache taken.dice done acted worked.cache
    worked.dice)) f)
    (λ es s. step_held ReadsRow left count above copy replica old adopted acted new
    (before taken.cache es) (behind worked.cache) taken.dice worked.dice (t.number, t.p) done result
    own t.adopts s g)
