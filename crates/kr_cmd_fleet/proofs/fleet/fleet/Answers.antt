-- `fleet`: the plan, what the workers left, and what was written.
use Rattle.std.proofs.Common.{List, [], refl}
use Rattle.kr_kms.specs.Exchanges.{Exchange}
use Rattle.kr_cmd_steps.specs.Environment.{Environment, with_exchanges, with_world}
use Rattle.kr_cmd_steps.proofs.Hearing.{heard_none, none_heard}
use Rattle.kr_cmd_fleet.specs.StartExchanges.{WereAsked}
use Rattle.kr_cmd_fleet.specs.inner.Plans.{plan_of}
use Rattle.kr_cmd_fleet.proofs.CallEnds.{IsPlanned, stopped, unplanned}
use Rattle.kr_cmd_fleet.proofs.FleetRuns.{fleet_ran, fleet_stopped}
use Rattle.kr_cmd_fleet.proofs.StartExchanges.{were_within}
use Rattle.kr_cmd_fleet.proofs.fleet.fleet.Given.{Over}
use Rattle.kr_cmd_fleet.proofs.fleet.fleet.Goals.{After-run_fleet_over_store}
use Rattle.kr_cmd_fleet.proofs.fleet.fleet.Goals as goal

planned : (g : Over) (c : After-run_fleet_over_store g) (a : Environment)
    → IsPlanned c.args.words.now (plan_of c.in-Ok.plan)
    (with_world (g.W.World.told c.args.world.now) a)
    (with_world (g.W.World.told c.load_plan.new.world) a) c.as_str.result.now c.as_str-2.result.now
planned g c a = record {
  file_is = c.as_str.ensures;
  planned = c.in-Ok.ensures.does a;
  store_is = c.as_str-2.ensures;
}

abbrev asked : (g : Over) (c : After-run_fleet_over_store g) (exchanges : List Exchange)
    → WereAsked g.W.Link.Kms.link g.W.World.lent g.W.World.took g.W.Link.Kms.step exchanges
    (g.W.World.told c.load_plan.new.world) (g.W.World.told c.run_fleet_over_store.new.world)
    → WereAsked g.W.Link.Kms.link g.W.World.lent g.W.World.took g.W.Link.Kms.step exchanges
    (g.W.World.told c.args.world.now) (g.W.World.told c.run_fleet_over_store.new.world)
asked g c exchanges = were_within g.W.Link.Kms.link g.W.World.lent g.W.World.took
    g.W.Link.Kms.step c.load_plan.ensures.links refl

pub returns-in-Err-clause-did : goal.returns-in-Err-clause-did
returns-in-Err-clause-did g c = (
  [],
  λ a.
      let new = with_world (g.W.World.told c.load_plan.new.world) a in
      fleet_stopped (unplanned _ _ _ g.W.World.lent g.W.World.took _ _ c.args.words.now _ _
      (with_exchanges [] new) c.as_str.result.now c.as_str.ensures c.in-Err.stop _
      (none_heard new (c.in-Err.ensures.does a)) (refl, refl) (heard_none a.heard)
      c.load_plan.ensures.links),
)

pub returns-in-Err-run_fleet_over_store-clause-did :
    goal.returns-in-Err-run_fleet_over_store-clause-did
returns-in-Err-run_fleet_over_store-clause-did g c =
    let here = (goal.at.returns-in-Err-run_fleet_over_store-clause-did
    g c).After-run_fleet_over_store in
    let start = c.in-Err-run_fleet_over_store.ensures in (
      start.exchanges,
      λ a. fleet_stopped (stopped (planned g here a) refl
          (asked g here start.exchanges start.asked) c.in-Err-run_fleet_over_store.stop
          (start.done a) (refl, refl)),
    )

pub run_fleet_over_store-requires-clause-plan : goal.run_fleet_over_store-requires-clause-plan
run_fleet_over_store-requires-clause-plan g c = λ κs lives. c.in-Ok.ensures.whole

pub returns-clause-did : goal.returns-clause-did
returns-clause-did g c =
    let here = (goal.at.returns-clause-did g c).After-run_fleet_over_store in
    let start = c.in-Ok-run_fleet_over_store.ensures in (
      start.exchanges,
      λ a. fleet_ran (planned g here a) refl (asked g here start.exchanges start.asked)
          c.in-Ok-run_fleet_over_store.record (start.done a) c.write_record-written.ensures.written,
    )
