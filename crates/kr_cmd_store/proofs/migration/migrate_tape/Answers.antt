-- `migrate_tape`: the source is loaded, and its tape is out until the target's is back.
use Rattle.kr_config.specs.Kept.{rows_of}
use Rattle.kr_cmd_steps.specs.Environment.{with_world}
use Rattle.kr_cmd_steps.specs.StoreSteps.{migrating_into, source_on}
use Rattle.kr_cmd_steps.specs.Steps.{and_then}
use Rattle.kr_cmd_steps.specs.inner.Lent.{with_lent_tape}
use Rattle.kr_cmd_steps.specs.inner.Tapes.{stored_of}
use Rattle.kr_cmd_steps.proofs.RunTo.{goes_on, stops}
use Rattle.kr_cmd_steps.proofs.Loading.{as_closed}
use Rattle.kr_cmd_store.proofs.migration.migrate_tape.Goals as goal

pub returns-in-Err-clause-made : goal.returns-in-Err-clause-made
returns-in-Err-clause-made g c name a apart =
    stops (source_on name)
    (migrating_into c.args.to.now (rows_of c.args.settings.now.entries.0)) c.in-Err.stop
    (c.in-Err.ensures.err name (with_world (g.W.World.told c.args.world.now) a))

pub returns-clause-made : goal.returns-clause-made
returns-clause-made g c name a apart =
    let next = migrating_into c.args.to.now (rows_of c.args.settings.now.entries.0) in
    let source = c.in-Ok.source in
    let now = with_world (g.W.World.told c.args.world.now) a in
    as_closed (and_then (source_on name) next) name
    (with_world (g.W.World.told c.migrate_store-made.new.world) a)
    (with_lent_tape name (g.W.Tap.Tape.told c.args.tape) (g.W.Tap.Tape.count c.args.tape) now)
    c.close.ensures.told c.close.ensures.count
    (goes_on (source_on name) next (stored_of source)
    (c.in-Ok.ensures.ok name now)
    (c.migrate_store-made.ensures.made name source.told source.count a apart))

pub returns-clause-out : goal.returns-clause-out
returns-clause-out g c = c.migrate_store-made.ensures.out

pub returns-clause-links : goal.returns-clause-links
returns-clause-links g c = c.migrate_store-made.ensures.links
