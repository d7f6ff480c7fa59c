-- `watch`: the plan, what the workers left, what a watch shows of it, and what was written.
use Rattle.std.proofs.Common.{true, [], None, refl, ap, ◌∙◌}
use Rattle.kr_workers.specs.Endings.{gravest_ending}
use Rattle.kr_cmd_steps.specs.Environment.{Environment, around, with_exchanges, with_world}
use Rattle.kr_cmd_steps.proofs.Hearing.{heard_none, none_heard}
use Rattle.kr_cmd_fleet.specs.inner.Plans.{plan_of}
use Rattle.kr_cmd_fleet.proofs.CallEnds.{IsPlanned, stopped, unplanned}
use Rattle.kr_cmd_fleet.proofs.StartExchanges.{were_within}
use Rattle.kr_cmd_watch.proofs.WatchEnds.{HasLeft, are_of_one, watch_lacks, watch_stopped, watch_wrote}
use Rattle.kr_cmd_watch.proofs.watching.watch.Given.{Over}
use Rattle.kr_cmd_watch.proofs.watching.watch.Goals.{In-Ok-run_fleet_over_store}
use Rattle.kr_cmd_watch.proofs.watching.watch.Goals as goal

-- the workers ran
went : (g : Over) (c : In-Ok-run_fleet_over_store g) (a : Environment)
    → HasLeft g.row.W-Tap.Denot g.W.Link.Kms.link g.W.Link.Kms.step g.W.World.lent
    g.W.World.took g.W.Rand.Dice.left g.W.Rand.Dice.count c.args.words.now
    (with_world (g.W.World.told c.args.world.now) a)
    (with_world (g.W.World.told c.run_fleet_over_store.new.world)
    (with_exchanges c.in-Ok-run_fleet_over_store.ensures.exchanges a))
    c.in-Ok-run_fleet_over_store.ensures.exchanges c.in-Ok-run_fleet_over_store.record
went g c a = let start = c.in-Ok-run_fleet_over_store.ensures in record {
  plan = plan_of c.in-Ok.plan;
  now = with_world (g.W.World.told c.load_plan.new.world) a;
  file = c.as_str.result.now;
  store = c.as_str-2.result.now;
  made = record {
    file_is = c.as_str.ensures;
    planned = c.in-Ok.ensures.does a;
    store_is = c.as_str-2.ensures;
  };
  heard = refl;
  asked = were_within g.W.Link.Kms.link g.W.World.lent g.W.World.took g.W.Link.Kms.step
      c.load_plan.ensures.links refl start.asked;
  leaves = start.done a;
}

pub returns-in-Err-clause-did : goal.returns-in-Err-clause-did
returns-in-Err-clause-did g c = (
  [],
  λ a.
      let new = with_world (g.W.World.told c.load_plan.new.world) a in
      watch_stopped (unplanned g.row.W-Tap.Denot g.W.Link.Kms.link g.W.Link.Kms.step
      g.W.World.lent g.W.World.took g.W.Rand.Dice.left g.W.Rand.Dice.count
      c.args.words.now.fleet true _
      (with_exchanges [] new) c.as_str.result.now c.as_str.ensures c.in-Err.stop _
      (none_heard new (c.in-Err.ensures.does a)) (refl, refl) (heard_none a.heard)
      c.load_plan.ensures.links),
)

pub run_fleet_over_store-requires-clause-plan : goal.run_fleet_over_store-requires-clause-plan
run_fleet_over_store-requires-clause-plan g c = λ κs lives. c.in-Ok.ensures.whole

pub returns-in-Err-run_fleet_over_store-clause-did :
    goal.returns-in-Err-run_fleet_over_store-clause-did
returns-in-Err-run_fleet_over_store-clause-did g c =
    let start = c.in-Err-run_fleet_over_store.ensures in (
      start.exchanges,
      λ a.
          let made : IsPlanned c.args.words.now.fleet (plan_of c.in-Ok.plan)
          (with_world (g.W.World.told c.args.world.now) a)
          (with_world (g.W.World.told c.load_plan.new.world) a) c.as_str.result.now
          c.as_str-2.result.now = record {
            file_is = c.as_str.ensures;
            planned = c.in-Ok.ensures.does a;
            store_is = c.as_str-2.ensures;
          } in
          watch_stopped (stopped made refl
          (were_within g.W.Link.Kms.link g.W.World.lent g.W.World.took g.W.Link.Kms.step
          c.load_plan.ensures.links refl start.asked) c.in-Err-run_fleet_over_store.stop
          (start.done a) (refl, refl)),
    )

pub follow-requires : goal.follow-requires
follow-requires g c =
    are_of_one (went g (goal.at.follow-requires g c).In-Ok-run_fleet_over_store
    (around (g.W.World.told c.args.world.now) None 0)) c.as_slice-2.result.now c.as_slice-2.ensures

pub returns-in-Err-follow-clause-did : goal.returns-in-Err-follow-clause-did
returns-in-Err-follow-clause-did g c =
    let here = (goal.at.returns-in-Err-follow-clause-did g c).In-Ok-run_fleet_over_store in
    (here.in-Ok-run_fleet_over_store.ensures.exchanges, λ a. watch_lacks (went g here a) (refl, refl))

pub returns-in-Err-show-clause-did : goal.returns-in-Err-show-clause-did
returns-in-Err-show-clause-did g c =
    let here = (goal.at.returns-in-Err-show-clause-did g c).In-Ok-run_fleet_over_store in
    (here.in-Ok-run_fleet_over_store.ensures.exchanges, λ a. watch_lacks (went g here a) (refl, refl))

pub returns-clause-did : goal.returns-clause-did
returns-clause-did g c =
    let here = (goal.at.returns-clause-did g c).In-Ok-run_fleet_over_store in (
      here.in-Ok-run_fleet_over_store.ensures.exchanges,
      λ a. watch_wrote (went g here a) c.as_slice-2.result.now c.as_slice-2.ensures
          c.in-Ok-follow.watch c.in-Ok-follow.ensures.keeps c.in-Ok-follow.ensures.follows
          c.gravest_ending-ended.result
          (c.gravest_ending-ended.ensures ∙ ap gravest_ending c.as_slice.ensures)
          c.in-Ok-show.shown.text.items c.in-Ok-show.shown.ending c.in-Ok-show.ensures
          c.write_shown.ensures.written,
    )
