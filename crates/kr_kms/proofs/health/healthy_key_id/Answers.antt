-- The one question, and what its answer shows.
use Rattle.std.proofs.Common.{refl, rules, Err}
use Rattle.kr_base.proofs.Walks.{talk_one}
use Rattle.kr_kms.specs.Exchanges.{StatusCall}
use Rattle.kr_kms.specs.Health.{no_status, judged}
use Rattle.kr_kms.specs.declared.plugin.KmsNo.TheVariants as link
use Rattle.kr_kms.proofs.health.healthy_key_id.Goals as goal

pub returns-in-Ok-clause-asked : goal.returns-in-Ok-clause-asked
returns-in-Ok-clause-asked g c = talk_one _ _ _ _ _ (search rules) (judged c.in-Ok.status c.judge.ensures)

pub returns-in-Err-Failed-clause-asked : goal.returns-in-Err-Failed-clause-asked
returns-in-Err-Failed-clause-asked g c =
    let asked : g.L.Kms.step c.args.link.now (StatusCall (g.L.Kms.link c.args.link.now).name (Err link.Failed)) c.status.new.self = search rules in
    talk_one _ _ _ _ _ asked (no_status link.Failed refl)

pub returns-in-Err-NoMemory-clause-asked : goal.returns-in-Err-NoMemory-clause-asked
returns-in-Err-NoMemory-clause-asked g c =
    let asked : g.L.Kms.step c.args.link.now (StatusCall (g.L.Kms.link c.args.link.now).name (Err link.NoMemory)) c.status.new.self = search rules in
    talk_one _ _ _ _ _ asked (no_status link.NoMemory refl)
