-- `run_fleet_on_tape`: the store on the tape, the budgets, and the workers.
use Rattle.std.proofs.Common.{◌≡◌, ◌+◌, ◌<◌, Err, sym, ap, subst}
use Rattle.std.specs.Prelude.{sum}
use Rattle.kr_base.specs.Limits.{journal_limit}
use Rattle.kr_workers.specs.Budgets.{all_reloads, script_budgets, put_lines}
use Rattle.kr_cmd_steps.specs.Environment.{with_exchanges, with_world}
use Rattle.kr_cmd_steps.specs.Phases.{stored_on}
use Rattle.kr_cmd_fleet.specs.Fleets.{beginning, budgeting, equipping_all, parts_of}
use Rattle.kr_cmd_steps.specs.Steps.{and_then, hearing}
use Rattle.kr_cmd_fleet.specs.inner.Workings.{BeginsLent}
use Rattle.kr_cmd_fleet.specs.inner.Plans.{plan_of}
use Rattle.kr_cmd_steps.specs.inner.Lent.{with_lent_tape}
use Rattle.kr_cmd_steps.specs.inner.Phases.{Does}
use Rattle.kr_cmd_steps.specs.inner.Tapes.{stored_of}
use Rattle.kr_cmd_messages.specs.declared.refusal.Object.TheVariants.{Store}
use Rattle.kr_cmd_fleet.proofs.StartExchanges.{not_started}
use Rattle.kr_cmd_fleet.proofs.FleetRuns.{are_budgets, before, budgeted, budgets_fit, ends_before, not_budgeted, runs_closed}
use Rattle.kr_cmd_fleet.proofs.fleet.run_fleet_on_tape.Goals as goal

pub run_outfitted_fleet-made-requires-clause-entries :
    goal.run_outfitted_fleet-made-requires-clause-entries
run_outfitted_fleet-made-requires-clause-entries g c = λ κs lives.
    let store = c.in-Ok.store in
    let parts = c.args.plan.now.script.workers.0 in
    are_budgets store.rows parts c.live_count.result c.live_count.ensures
    c.in-Ok-script_budgets.budgets.entries.items
    (subst (λ p. c.in-Ok-script_budgets.budgets.entries.items
    ≡ script_budgets (c.live_count.result + put_lines p) p) c.as_slice.ensures
    c.in-Ok-script_budgets.ensures.entries)

pub run_outfitted_fleet-made-requires-clause-reloads :
    goal.run_outfitted_fleet-made-requires-clause-reloads
run_outfitted_fleet-made-requires-clause-reloads g c = λ κs lives.
    subst (λ p. c.in-Ok-script_budgets.budgets.reloads.items ≡ all_reloads p) c.as_slice.ensures
    c.in-Ok-script_budgets.ensures.reloads

pub run_outfitted_fleet-made-requires-clause-fit : goal.run_outfitted_fleet-made-requires-clause-fit
run_outfitted_fleet-made-requires-clause-fit g c = λ κs lives.
    let parts = c.as_slice.result.now in
    budgets_fit (c.live_count.result + put_lines parts) parts
    c.in-Ok-script_budgets.budgets.entries.items c.in-Ok-script_budgets.budgets.reloads.items
    c.in-Ok-script_budgets.ensures.entries c.in-Ok-script_budgets.ensures.reloads

pub run_outfitted_fleet-made-requires-clause-store :
    goal.run_outfitted_fleet-made-requires-clause-store
run_outfitted_fleet-made-requires-clause-store g c = λ κs lives. c.in-Ok.ensures.limit

pub returns-in-Err-clause-made : goal.returns-in-Err-clause-made
returns-in-Err-clause-made g c =
    let plan = plan_of c.args.plan.now in
    let world = g.W.World.told c.args.world.now in
    let tape = c.in-Err.tape in
    let first = stored_on Store in
    not_started g.row.W-Tap.Denot g.W.Link.Kms.link g.W.Link.Kms.step
    g.W.World.lent g.W.World.took g.W.Rand.Dice.left g.W.Rand.Dice.count c.args.watched plan
    (λ name. and_then (first name) (beginning c.args.watched plan))
    (λ name a. with_lent_tape name (g.W.Tap.Tape.told c.args.tape) (g.W.Tap.Tape.count c.args.tape)
    (with_world world a))
    (λ name a. with_lent_tape name (g.W.Tap.Tape.told tape) (g.W.Tap.Tape.count tape)
    (with_world world a)) c.in-Err.stop world
    (λ Begins name a. ends_before _ _ _ _ _ Begins c.args.watched name plan (first name)
    (beginning c.args.watched plan) c.in-Err.stop (c.in-Err.ensures.err name (with_world world a)))

pub returns-in-Err-script_budgets-clause-made : goal.returns-in-Err-script_budgets-clause-made
returns-in-Err-script_budgets-clause-made g c =
    let store = c.in-Ok.store in
    let plan = plan_of c.args.plan.now in
    let parts = c.args.plan.now.script.workers.0 in
    let world = g.W.World.told c.args.world.now in
    let tape = c.close.result in
    let why = c.in-Err-script_budgets.why in
    let stop = c.budget_stop.result in
    let link = g.W.Link.Kms.link in
    let step = g.W.Link.Kms.step in
    let left = g.W.Rand.Dice.left in
    let count = g.W.Rand.Dice.count in
    let watched = c.args.watched in
    not_started g.row.W-Tap.Denot link step g.W.World.lent g.W.World.took left count watched
    plan (λ name. and_then (stored_on Store name) (beginning watched plan))
    (λ name a. with_lent_tape name (g.W.Tap.Tape.told c.args.tape) (g.W.Tap.Tape.count c.args.tape)
    (with_world world a))
    (λ name a. with_lent_tape name (g.W.Tap.Tape.told tape) (g.W.Tap.Tape.count tape)
    (with_world world a)) stop world
    (λ Begins name a.
    let here = with_world world a in
    let old = with_lent_tape name (g.W.Tap.Tape.told c.args.tape) (g.W.Tap.Tape.count c.args.tape)
    here in
    let now = with_lent_tape name store.told store.count here in
    runs_closed g.row.W-Tap.Denot link step left count Begins watched name plan
    (and_then (stored_on Store name) (beginning watched plan)) here old
    (Err stop) c.close.ensures.told c.close.ensures.count
    (before g.row.W-Tap.Denot link step left count Begins watched name plan
    (stored_on Store name) (beginning watched plan) (stored_of store) now
    (c.in-Ok.ensures.ok name here) (Err stop)
    (ends_before g.row.W-Tap.Denot link step left count Begins watched name plan
    (budgeting store.rows (parts_of plan.fleet)) (equipping_all watched plan (stored_of store)) stop
    (subst (λ s. Does (budgeting store.rows (parts_of plan.fleet)) now now (Err s))
    (sym c.budget_stop.ensures)
    (not_budgeted store.rows parts c.live_count.result c.live_count.ensures why
    (λ is. subst (λ p. journal_limit < sum (script_budgets (c.live_count.result + put_lines p) p))
    c.as_slice.ensures (c.in-Err-script_budgets.ensures.many (ap Err is))) now)))))

pub returns-clause-made : goal.returns-clause-made
returns-clause-made g c =
    let store = c.in-Ok.store in
    let plan = plan_of c.args.plan.now in
    let parts = c.args.plan.now.script.workers.0 in
    let budgets = c.in-Ok-script_budgets.budgets.entries.items in
    let link = g.W.Link.Kms.link in
    let step = g.W.Link.Kms.step in
    let left = g.W.Rand.Dice.left in
    let count = g.W.Rand.Dice.count in
    let watched = c.args.watched in
    let made = c.run_outfitted_fleet-made.result.0 in
    let back = c.run_outfitted_fleet-made.result.1 in
    let start = c.run_outfitted_fleet-made.ensures.made in
    let es = start.exchanges in record {
      exchanges = es;
      asked = start.asked;
      done = (
        start.done.0,
        λ name a.
            let Begins = BeginsLent (hearing es a.heard) es step g.W.World.lent
            g.W.World.took start.asked.begun start.asked.back in
            let here = with_world (g.W.World.told c.args.world.now) a in
            let old = with_lent_tape name (g.W.Tap.Tape.told c.args.tape)
            (g.W.Tap.Tape.count c.args.tape) here in
            let now = with_lent_tape name store.told store.count here in
            let there = with_world (g.W.World.told c.run_outfitted_fleet-made.new.world)
            (with_exchanges es a) in
            let new = with_lent_tape name back.told back.count there in
            runs_closed g.row.W-Tap.Denot link step left count Begins watched name plan
            (and_then (stored_on Store name) (beginning watched plan)) there old
            made c.close-2.ensures.told c.close-2.ensures.count
            (before g.row.W-Tap.Denot link step left count Begins watched name plan
            (stored_on Store name) (beginning watched plan) (stored_of store) new
            (c.in-Ok.ensures.ok name here) made
            (before g.row.W-Tap.Denot link step left count Begins watched name plan
            (budgeting store.rows (parts_of plan.fleet))
            (equipping_all watched plan (stored_of store))
            budgets new
            (budgeted store.rows parts c.live_count.result c.live_count.ensures budgets
            (subst (λ p. budgets ≡ script_budgets (c.live_count.result + put_lines p) p)
            c.as_slice.ensures c.in-Ok-script_budgets.ensures.entries)
            c.in-Ok-script_budgets.ensures.few now)
            made (start.done.1 name a))),
      );
    }
