-- `judgement_outcome`: the verdict, what the command makes of it.
use Rattle.std.proofs.Common.{Ok, Err}
use Rattle.kr_config.specs.Kept.{rows_of}
use Rattle.kr_opening.specs.Replicas.{rows_in}
use Rattle.kr_cmd_steps.specs.StoreSteps.{judgement_on, telling}
use Rattle.kr_cmd_steps.proofs.RunTo.{goes_on, stops}
use Rattle.kr_cmd_store.proofs.Judging.{judges, tells_verdict}
use Rattle.kr_cmd_store.proofs.judge.judgement_outcome.Goals as goal

pub returns-in-Err : goal.returns-in-Err
returns-in-Err g c a =
    let stored = c.args.store.now.rows in
    let replicas = rows_in c.args.replicas.now.0 in
    let rows = rows_of c.args.settings.now.entries.0 in
    stops (judgement_on stored replicas c.args.replica rows) telling c.in-Err.stop
    (judges stored replicas c.args.replica rows a (Err c.in-Err.stop) c.in-Err.ensures)

pub returns-in-Ok : goal.returns-in-Ok
returns-in-Ok g c a =
    let stored = c.args.store.now.rows in
    let replicas = rows_in c.args.replicas.now.0 in
    let rows = rows_of c.args.settings.now.entries.0 in
    let verdict = c.in-Ok.verdict in
    goes_on (judgement_on stored replicas c.args.replica rows) telling verdict
    (judges stored replicas c.args.replica rows a (Ok verdict) c.in-Ok.ensures)
    (tells_verdict verdict a c.judged_outcome.result c.judged_outcome.ensures)
