-- `start_core`: the core at its opening, or why there is none.
use Rattle.std.proofs.Common.{Err, sym, subst}
use Rattle.kr_cmd_fleet.specs.Fleets.{starting}
use Rattle.kr_cmd_fleet.specs.inner.Plans.{plan_of}
use Rattle.kr_cmd_steps.specs.inner.Phases.{Does}
use Rattle.kr_cmd_steps.specs.inner.Tapes.{stored_of}
use Rattle.kr_cmd_fleet.proofs.Beginnings.{not_started, started}
use Rattle.kr_cmd_fleet.proofs.fleet.start_core.Goals as goal

pub returns-in-Ok-start-clause-does : goal.returns-in-Ok-start-clause-does
returns-in-Ok-start-clause-does g c a items = started c.args.plan.now
    c.args.budgets.now.entries.items c.args.store c.args.replicas.0 a items
    c.in-Ok-start.ensures.starts.0

pub returns-in-Err-start-clause-does : goal.returns-in-Err-start-clause-does
returns-in-Err-start-clause-does g c a items =
    let plan = c.args.plan.now in
    let budgets = c.args.budgets.now.entries.items in
    subst (λ s. Does (starting (plan_of plan) (stored_of c.args.store) budgets c.args.replicas.0
    items) a a (Err s)) (sym c.start_stop.ensures)
    (not_started plan budgets c.args.store c.args.replicas.0 a items c.in-Err-start.why
    c.in-Err-start.ensures.starts)
