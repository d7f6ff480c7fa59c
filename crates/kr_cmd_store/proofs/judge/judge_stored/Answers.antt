-- `judge_stored`: the replicas' configurations, the new one, the verdict.
use Rattle.std.proofs.Common.{[], Ok, Err, subst, arith}
use Rattle.kr_config.specs.Kept.{rows_of}
use Rattle.kr_opening.specs.Replicas.{rows_in}
use Rattle.kr_cmd_steps.specs.Environment.{with_world}
use Rattle.kr_cmd_messages.specs.Command.{replica_names, reload_in, reload_number, reload_file}
use Rattle.kr_cmd_steps.specs.Phases.{configuration}
use Rattle.kr_cmd_steps.specs.StoreSteps.{configurations, judging_at}
use Rattle.kr_cmd_steps.specs.inner.Lent.{with_tapes}
use Rattle.kr_cmd_steps.specs.inner.Phases.{Does}
use Rattle.kr_cmd_steps.proofs.RunTo.{goes_on, stops, by_bytes}
use Rattle.kr_cmd_steps.proofs.OneVerdict.{read_then}
use Rattle.kr_cmd_store.proofs.Loads.{configures_behind}
use Rattle.kr_cmd_store.proofs.ReplicaLists.{first_in}
use Rattle.kr_cmd_store.proofs.judge.judge_stored.Goals as goal

pub judgement_outcome-requires-clause-first : goal.judgement_outcome-requires-clause-first
judgement_outcome-requires-clause-first g c =
    first_in _ c.in-Ok.replicas.0 c.in-Ok.ensures.are_in c.requires.some

pub judgement_outcome-requires-clause-few : goal.judgement_outcome-requires-clause-few
judgement_outcome-requires-clause-few g c =
    omega (arith, c.in-Ok.ensures.are_in.0, c.requires.few)

pub returns-in-Err-clause-made : goal.returns-in-Err-clause-made
returns-in-Err-clause-made g c tapes a =
    let options = c.args.words.now.options in
    stops (configurations [] (replica_names options)) (read_then options c.args.store.now.rows)
    c.in-Err.stop (c.in-Err.ensures.loads tapes a)

pub returns-in-Err-load_settings-clause-made : goal.returns-in-Err-load_settings-clause-made
returns-in-Err-load_settings-clause-made g c tapes a =
    let options = c.args.words.now.options in
    let stored = c.args.store.now.rows in
    let replicas = rows_in c.in-Ok.replicas.0 in
    goes_on (configurations [] (replica_names options)) (read_then options stored) replicas
    (c.in-Ok.ensures.loads tapes a)
    (stops (configuration (reload_file (reload_in options)))
    (judging_at stored replicas (reload_number (reload_in options))) c.in-Err-load_settings.stop
    (by_bytes configuration c.reload_file.ensures
    (configures_behind c.in-Err-load_settings.ensures.files c.in-Err-load_settings.ensures.objects
    tapes a c.reload_file.result.now (Err c.in-Err-load_settings.stop)
    c.in-Err-load_settings.ensures.settings c.in-Err-load_settings.ensures.asked)))

pub returns-clause-made : goal.returns-clause-made
returns-clause-made g c tapes a =
    let options = c.args.words.now.options in
    let stored = c.args.store.now.rows in
    let replicas = rows_in c.in-Ok.replicas.0 in
    let settings = c.in-Ok-load_settings.settings in
    let rows = rows_of settings.entries.0 in
    let now = with_world (with_tapes tapes (g.W.World.told c.load_settings.new.world)) a in
    goes_on (configurations [] (replica_names options)) (read_then options stored) replicas
    (c.in-Ok.ensures.loads tapes a)
    (goes_on (configuration (reload_file (reload_in options)))
    (judging_at stored replicas (reload_number (reload_in options))) rows
    (by_bytes configuration c.reload_file.ensures
    (configures_behind c.in-Ok-load_settings.ensures.files c.in-Ok-load_settings.ensures.objects
    tapes a c.reload_file.result.now (Ok settings) c.in-Ok-load_settings.ensures.settings
    c.in-Ok-load_settings.ensures.asked))
    (subst (λ n. Does (judging_at stored replicas n rows) now now c.judgement_outcome.result)
    c.reloaded.ensures (c.judgement_outcome.ensures now)))
