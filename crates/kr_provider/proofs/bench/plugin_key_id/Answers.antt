-- `plugin_key_id`: the plugin of the name alone is asked, and a refusal is its own.
use Rattle.std.proofs.Common.{◌≡◌, ℕ, List, [], ◌∷◌, Ok, Err, refl, sym, ap, ◌∙◌, subst, inl, inr}
use Rattle.kr_base.proofs.Walks.{talk_none}
use Rattle.kr_kms.specs.Calls.{Link}
use Rattle.kr_kms.specs.Health.{TellsKeyId, TellsKeyIdBy}
use Rattle.kr_kms.specs.declared.health.SeedNo.{SeedNo}
use Rattle.kr_kms.specs.declared.health.SeedNo.TheVariants as seed
use Rattle.kr_provider.specs.Publishing.{AnswersKeyId, TellsKeyIdOf}
use Rattle.kr_provider.specs.declared.refusal.PublishNo.{PublishNo}
use Rattle.kr_provider.specs.declared.refusal.PublishNo.TheVariants.{NoMemory}
use Rattle.kr_provider.specs.Exchanges.{plugin_refusal, TellsKeyIdAt}
use Rattle.kr_provider.specs.AskedLinks.{Among}
use Rattle.kr_provider.proofs.AskedLists.{asked_alone, asked_none}
use Rattle.kr_provider.proofs.LinkTalks.{refused_at, told_at}
use Rattle.kr_provider.proofs.bench.plugin_key_id.Goals as goal

tells : {L : Type 0} (link : L → Link) (name : List ℕ) (olds news : List L) (why : SeedNo)
    (refusal : PublishNo) → refusal ≡ plugin_refusal name why
    → AnswersKeyId link name olds (Err why) news → TellsKeyIdOf link name olds (Err refusal) news
tells {L} link name olds news why refusal e a =
    subst (λ r. TellsKeyIdOf link name olds (Err r) news) (sym e) (by why a)
  where
    by : (why : SeedNo) → AnswersKeyId link name olds (Err why) news
        → TellsKeyIdOf link name olds (Err (plugin_refusal name why)) news
    by seed.Failed a = (refl, a)
    by seed.DiceFailed a = absurd a.asks
    by (seed.Unhealthy field text) a = (refl, a)
    by seed.NoMemory a = inl a

pub returns-in_default-clause-told : goal.returns-in_default-clause-told
returns-in_default-clause-told g c = inr refl

pub returns-in_default-clause-asked : goal.returns-in_default-clause-asked
returns-in_default-clause-asked g c =
    asked_none g.L.Kms.link (c.args.name.now ∷ []) c.args.links.now

pub returns-in_default-clause-exchanged : goal.returns-in_default-clause-exchanged
returns-in_default-clause-exchanged g c = talk_none (Among g.L.Kms.step)
    (TellsKeyIdAt c.args.name.now (Err NoMemory)) c.args.links.now (inr (refl, refl))

pub returns-in-Ok-key_id-clause-asked : goal.returns-in-Ok-key_id-clause-asked
returns-in-Ok-key_id-clause-asked g c = asked_alone g.L.Kms.link c.args.name.now
    (λ old new. TellsKeyId (g.L.Kms.link old) c.key_id.result (g.L.Kms.link new))
    c.args.links.now c.key_id.new.self c.key_id.ensures.told

pub returns-in-Err-clause-told : goal.returns-in-Err-clause-told
returns-in-Err-clause-told g c = tells g.L.Kms.link c.args.name.now c.args.links.now
    c.key_id.new.self c.in-Err.why c.plugin_refusal.result
    (c.plugin_refusal.ensures ∙ ap (λ (n : List ℕ). plugin_refusal n c.in-Err.why) c.in-Ok.ensures)
    c.in-Err.ensures.told

pub returns-in-Err-clause-asked : goal.returns-in-Err-clause-asked
returns-in-Err-clause-asked g c = asked_alone g.L.Kms.link c.args.name.now
    (λ old new. TellsKeyId (g.L.Kms.link old) c.key_id.result (g.L.Kms.link new))
    c.args.links.now c.key_id.new.self c.key_id.ensures.told

pub returns-in-Ok-key_id-clause-exchanged : goal.returns-in-Ok-key_id-clause-exchanged
returns-in-Ok-key_id-clause-exchanged g c = told_at c.args.name.now (Ok c.in-Ok-key_id.key_id) _
    (TellsKeyIdBy c.args.name.now) refl c.in-Ok-key_id.ensures.exchanged

pub returns-in-Err-clause-exchanged : goal.returns-in-Err-clause-exchanged
returns-in-Err-clause-exchanged g c = refused_at c.args.name.now (Err c.in-Err.why) _
    (TellsKeyIdBy c.args.name.now) _
    (c.plugin_refusal.ensures ∙ ap (λ (n : List ℕ). plugin_refusal n c.in-Err.why) c.in-Ok.ensures)
    c.in-Err.ensures.exchanged
