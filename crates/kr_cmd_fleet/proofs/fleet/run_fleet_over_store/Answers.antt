-- `run_fleet_over_store`: the tape of the store, which comes back.
use Rattle.std.proofs.Common.{[], inl, refl, sym, subst}
use Rattle.std.specs.Prelude.{◌<◌}
use Rattle.kr_kms.specs.declared.world.Access.TheVariants.{ToMake}
use Rattle.kr_cmd_steps.specs.Phases.{stored_on}
use Rattle.kr_cmd_fleet.specs.Fleets.{beginning}
use Rattle.kr_cmd_steps.specs.Environment.{with_exchanges, with_world}
use Rattle.kr_cmd_steps.specs.Steps.{and_then, hearing}
use Rattle.kr_cmd_fleet.specs.inner.Workings.{BeginsLent}
use Rattle.kr_cmd_fleet.specs.inner.Plans.{plan_of}
use Rattle.kr_cmd_messages.specs.declared.refusal.Object.TheVariants.{Store}
use Rattle.kr_cmd_steps.proofs.Hearing.{none_heard}
use Rattle.kr_cmd_steps.proofs.Settling.{settled_links}
use Rattle.kr_cmd_fleet.proofs.SettledRuns.{over_settled_or}
use Rattle.kr_cmd_fleet.proofs.StartExchanges.{none_were, were_within}
use Rattle.kr_cmd_steps.proofs.Tapes.{not_lent, is_out}
use Rattle.kr_cmd_fleet.proofs.fleet.run_fleet_over_store.Goals as goal

pub returns-in-Err : goal.returns-in-Err
returns-in-Err g c = record {
  exchanges = [];
  asked = none_were g.W.Link.Kms.link g.W.World.lent g.W.World.took g.W.Link.Kms.step
      c.in-Err.ensures.objects.links;
  done = λ a. inl (
    refl,
    inl (none_heard (with_world (g.W.World.told c.open_tape.new.world) a)
        (not_lent c.in-Err.ensures.files c.in-Err.ensures.objects a
        c.args.store.now ToMake c.in-Err.stop c.in-Err.ensures.why c.in-Err.ensures.asked)),
  );
}

pub settle_tape-requires-clause-out : goal.settle_tape-requires-clause-out
settle_tape-requires-clause-out g c = λ κs lives.
    let name = c.args.store.now in
    subst (λ tapes. 0 < tapes.out name) (sym c.run_fleet_on_tape-made.ensures.out)
    (is_out name c.in-Ok.ensures.lent)

pub returns : goal.returns
returns g c =
    let name = c.args.store.now in
    let plan = plan_of c.args.plan.now in
    let start = c.run_fleet_on_tape-made.ensures.made in
    let es = start.exchanges in
    let mid = g.W.World.told c.run_fleet_on_tape-made.new.world in
    let new = g.W.World.told c.settle_tape.new.world in
    let told = g.W.Tap.Tape.told c.run_fleet_on_tape-made.result.1 in
    let n = g.W.Tap.Tape.count c.run_fleet_on_tape-made.result.1 in
    let made = c.run_fleet_on_tape-made.result.0 in record {
      exchanges = es;
      asked = were_within g.W.Link.Kms.link g.W.World.lent g.W.World.took g.W.Link.Kms.step
          c.in-Ok.ensures.lent.links (settled_links name Store mid new told n made
          c.settle_tape.result c.settle_tape.ensures) start.asked;
      done = λ a. over_settled_or _ _ _ _ _
          (BeginsLent (hearing es a.heard) es g.W.Link.Kms.step g.W.World.lent
          g.W.World.took start.asked.begun start.asked.back) c.args.watched name plan
          (and_then (stored_on Store name) (beginning c.args.watched plan)) a (with_exchanges es a)
          (g.W.World.told c.args.world.now) (g.W.World.told c.open_tape.new.world)
          (g.W.Tap.Tape.told c.in-Ok.tape) (g.W.Tap.Tape.count c.in-Ok.tape)
          mid new told n start.asked.begun start.asked.back made c.settle_tape.result
          start.done.0 c.in-Ok.ensures.lent c.settle_tape.ensures (start.done.1 name a);
    }
