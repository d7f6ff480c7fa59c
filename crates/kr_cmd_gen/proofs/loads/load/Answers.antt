-- `load`: the plan, what the workers left, and what was written.
use Rattle.std.proofs.Common.{refl}
use Rattle.kr_cmd_steps.specs.Environment.{with_world}
use Rattle.kr_cmd_gen.proofs.LoadRuns.{load_ran, load_stopped, unbegun}
use Rattle.kr_cmd_gen.proofs.loads.load.Goals as goal

pub returns-in-Err-clause-did : goal.returns-in-Err-clause-did
returns-in-Err-clause-did g c a unheard =
    unbegun g.row.W-Tap.Denot g.W.Link.Kms.link g.W.Link.Kms.step
    c.args.words.now
    (with_world (g.W.World.told c.args.world.now) a) _ (refl, refl)

pub run_load_over_store-requires-clause-plan : goal.run_load_over_store-requires-clause-plan
run_load_over_store-requires-clause-plan g c = λ κs lives. c.in-Ok.ensures.known

pub returns-in-Err-run_load_over_store-clause-did : goal.returns-in-Err-run_load_over_store-clause-did
returns-in-Err-run_load_over_store-clause-did g c a unheard =
    load_stopped g.row.W-Tap.Denot g.W.Link.Kms.link g.W.Link.Kms.step
    c.args.words.now _
    c.in-Ok.ensures.plan (with_world (g.W.World.told c.args.world.now) a)
    (with_world (g.W.World.told c.run_load_over_store.new.world) a) c.in-Err-run_load_over_store.stop _
    c.in-Err-run_load_over_store.ensures.others (c.in-Err-run_load_over_store.ensures.runs a unheard) (refl, refl)

pub returns-clause-did : goal.returns-clause-did
returns-clause-did g c a unheard =
    load_ran g.row.W-Tap.Denot g.W.Link.Kms.link g.W.Link.Kms.step
    c.args.words.now _
    c.in-Ok.ensures.plan (with_world (g.W.World.told c.args.world.now) a)
    (with_world (g.W.World.told c.run_load_over_store.new.world) a) c.in-Ok-run_load_over_store.record _ _
    c.in-Ok-run_load_over_store.ensures.others (c.in-Ok-run_load_over_store.ensures.runs a unheard)
    c.write_load.ensures.written
