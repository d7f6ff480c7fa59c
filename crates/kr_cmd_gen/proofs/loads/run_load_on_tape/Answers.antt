-- `run_load_on_tape`: the store on the tape, the budgets, and the workers.
use Rattle.std.proofs.Common.{◌≡◌, ◌+◌, ◌<◌, Err, false, sym, ap, subst, ◌∙◌}
use Rattle.std.specs.Prelude.{sum, ⊤}
use Rattle.kr_base.specs.Limits.{journal_limit}
use Rattle.kr_workers.specs.Budgets.{all_reloads, script_budgets, put_lines}
use Rattle.kr_workload.specs.Streams.{link_faults, left_in}
use Rattle.kr_cmd_steps.specs.Phases.{stored_on}
use Rattle.kr_cmd_fleet.specs.Fleets.{budgeting, launching, parts_of}
use Rattle.kr_cmd_gen.specs.GeneratedLoads.{load_beginning, with_sources}
use Rattle.kr_cmd_steps.specs.Steps.{and_then, hearing}
use Rattle.kr_cmd_steps.proofs.Hearing.{around_untold}
use Rattle.kr_cmd_fleet.specs.inner.Workings.{AsksOutfits}
use Rattle.kr_cmd_fleet.specs.inner.FleetOutcomes.{RunsBy}
use Rattle.kr_cmd_fleet.specs.inner.Outfits.{AreNamed, links_of, with_outfits}
use Rattle.kr_cmd_fleet.specs.inner.Plans.{plan_of}
use Rattle.kr_cmd_steps.specs.inner.Lent.{with_lent_tape}
use Rattle.kr_cmd_steps.specs.inner.Phases.{Does}
use Rattle.kr_cmd_steps.specs.inner.ProgramNames.{names_in}
use Rattle.kr_cmd_steps.specs.inner.Tapes.{stored_of}
use Rattle.kr_cmd_gen.specs.inner.LoadOutcomes.{sources_in}
use Rattle.kr_cmd_messages.specs.declared.refusal.Object.TheVariants.{Store}
use Rattle.kr_cmd_fleet.proofs.FleetRuns.{are_budgets, before, budgeted, budgets_fit, ends_before, not_budgeted, runs_closed, runs_so}
use Rattle.kr_cmd_gen.proofs.Generating.{bare_named, crew_seeded, later_bare}
use Rattle.kr_cmd_gen.proofs.loads.run_load_on_tape.Goals as goal

pub begin-made-requires-clause-entries : goal.begin-made-requires-clause-entries
begin-made-requires-clause-entries g c = λ κs lives.
    let store = c.in-Ok.store in
    let parts = c.args.plan.now.script.workers.0 in
    are_budgets store.rows parts c.live_count.result c.live_count.ensures
    c.in-Ok-script_budgets.budgets.entries.items
    (subst (λ p. c.in-Ok-script_budgets.budgets.entries.items
    ≡ script_budgets (c.live_count.result + put_lines p) p) c.as_slice.ensures
    c.in-Ok-script_budgets.ensures.entries)

pub begin-made-requires-clause-reloads : goal.begin-made-requires-clause-reloads
begin-made-requires-clause-reloads g c = λ κs lives.
    subst (λ p. c.in-Ok-script_budgets.budgets.reloads.items ≡ all_reloads p) c.as_slice.ensures
    c.in-Ok-script_budgets.ensures.reloads

pub begin-made-requires-clause-fit : goal.begin-made-requires-clause-fit
begin-made-requires-clause-fit g c = λ κs lives.
    let parts = c.as_slice.result.now in
    budgets_fit (c.live_count.result + put_lines parts) parts
    c.in-Ok-script_budgets.budgets.entries.items c.in-Ok-script_budgets.budgets.reloads.items
    c.in-Ok-script_budgets.ensures.entries c.in-Ok-script_budgets.ensures.reloads

pub begin-made-requires-clause-store : goal.begin-made-requires-clause-store
begin-made-requires-clause-store g c = λ κs lives. c.in-Ok.ensures.limit

pub begin-made-requires-clause-plan : goal.begin-made-requires-clause-plan
begin-made-requires-clause-plan g c = λ κs lives. c.requires.plan.whole

pub begin-made-requires-clause-seats : goal.begin-made-requires-clause-seats
begin-made-requires-clause-seats g c = λ κs lives. c.requires.four ∙ sym c.requires.plan.four

pub begin-made-requires-clause-named : goal.begin-made-requires-clause-named
begin-made-requires-clause-named g c = λ κs lives.
    subst (λ programs. AreNamed g.L.Kms.link (names_in programs) c.args.outfits.0)
    (sym c.requires.plan.bare) (bare_named g.L.Kms.link c.args.outfits.0 c.requires.bare)

pub returns-in-Err-clause-made : goal.returns-in-Err-clause-made
returns-in-Err-clause-made g c name a unheard =
    let here = with_sources (sources_in c.args.outfits.0) a in
    ends_before _ _ _ _ _ (λ heard asked workers ended. ⊤) false name (plan_of c.args.plan.now)
    (stored_on Store name)
    (load_beginning (plan_of c.args.plan.now)) c.in-Err.stop (c.in-Err.ensures.err name here)

pub returns-in-Err-script_budgets-clause-made : goal.returns-in-Err-script_budgets-clause-made
returns-in-Err-script_budgets-clause-made g c name a unheard =
    let store = c.in-Ok.store in
    let plan = plan_of c.args.plan.now in
    let parts = c.args.plan.now.script.workers.0 in
    let here = with_sources (sources_in c.args.outfits.0) a in
    let old = with_lent_tape name (g.T.Tape.told c.args.tape) (g.T.Tape.count c.args.tape) here in
    let now = with_lent_tape name store.told store.count here in
    let why = c.in-Err-script_budgets.why in
    let stop = c.budget_stop.result in
    runs_closed g.row.T.Denot g.L.Kms.link g.L.Kms.step left_in link_faults
    (λ heard asked workers ended. ⊤) false name
    plan (and_then (stored_on Store name) (load_beginning plan)) here old (Err stop)
    c.close.ensures.told c.close.ensures.count
    (before g.row.T.Denot g.L.Kms.link g.L.Kms.step left_in link_faults
    (λ heard asked workers ended. ⊤) false name plan
    (stored_on Store name) (load_beginning plan) (stored_of store) now
    (c.in-Ok.ensures.ok name here) (Err stop)
    (ends_before g.row.T.Denot g.L.Kms.link g.L.Kms.step left_in link_faults
    (λ heard asked workers ended. ⊤) false name
    plan (budgeting store.rows (parts_of plan.fleet)) (launching false plan (stored_of store)) stop
    (subst (λ s. Does (budgeting store.rows (parts_of plan.fleet)) now now (Err s))
    (sym c.budget_stop.ensures)
    (not_budgeted store.rows parts c.live_count.result c.live_count.ensures why
    (λ is. subst (λ p. journal_limit < sum (script_budgets (c.live_count.result + put_lines p) p))
    c.as_slice.ensures (c.in-Err-script_budgets.ensures.many (ap Err is))) now))))

pub returns-clause-made : goal.returns-clause-made
returns-clause-made g c name a unheard =
    let store = c.in-Ok.store in
    let plan = plan_of c.args.plan.now in
    let parts = c.args.plan.now.script.workers.0 in
    let budgets = c.in-Ok-script_budgets.budgets.entries.items in
    let link = g.L.Kms.link in
    let outfits = c.args.outfits.0 in
    let after = c.begin-made.result.2.0 in
    let here = with_sources (sources_in outfits) a in
    let there = with_sources (sources_in after) a in
    let old = with_lent_tape name (g.T.Tape.told c.args.tape) (g.T.Tape.count c.args.tape) here in
    let now = with_lent_tape name store.told store.count here in
    let made = c.begin-made.result.0 in
    let back = c.begin-made.result.1 in
    let new = with_lent_tape name back.told back.count there in
    let next = launching false plan (stored_of store) budgets in
    let bare = later_bare link outfits after c.begin-made.ensures.later c.requires.bare in
    let start = c.begin-made.ensures.made in
    runs_closed g.row.T.Denot link g.L.Kms.step left_in link_faults
    (λ heard asked workers ended. ⊤) false name plan
    (and_then (stored_on Store name) (load_beginning plan)) there old made
    c.close-2.ensures.told c.close-2.ensures.count
    (before g.row.T.Denot link g.L.Kms.step left_in link_faults
    (λ heard asked workers ended. ⊤) false name plan
    (stored_on Store name) (load_beginning plan) (stored_of store) new
    (c.in-Ok.ensures.ok name here) made
    (before g.row.T.Denot link g.L.Kms.step left_in link_faults
    (λ heard asked workers ended. ⊤) false name plan
    (budgeting store.rows (parts_of plan.fleet)) (launching false plan (stored_of store)) budgets
    new
    (budgeted store.rows parts c.live_count.result c.live_count.ensures budgets
    (subst (λ p. budgets ≡ script_budgets (c.live_count.result + put_lines p) p)
    c.as_slice.ensures c.in-Ok-script_budgets.ensures.entries) c.in-Ok-script_budgets.ensures.few
    now)
    made
    (subst (λ x. RunsBy g.row.T.Denot link g.L.Kms.step left_in link_faults
    (λ heard asked workers ended. ⊤) false next
    name plan x new made) (crew_seeded link name store.told store.count outfits c.requires.bare a)
    (subst (λ y. RunsBy g.row.T.Denot link g.L.Kms.step left_in link_faults
    (λ heard asked workers ended. ⊤) false next
    name plan (with_outfits link left_in link_faults 0 outfits
    (with_lent_tape name store.told store.count a)) y made)
    (crew_seeded link name back.told back.count after bare a)
    (runs_so g.row.T.Denot link g.L.Kms.step left_in link_faults
    (AsksOutfits (hearing start.exchanges a.heard) start.exchanges start.news
    (links_of after))
    (λ heard asked workers ended. ⊤) (λ heard asked workers ended k. tt) false next name plan
    (with_outfits link left_in link_faults 0 outfits (with_lent_tape name store.told store.count a))
    (with_outfits link left_in link_faults 0 after (with_lent_tape name back.told back.count a))
    made
    (subst (λ b. RunsBy g.row.T.Denot link g.L.Kms.step left_in link_faults
    (AsksOutfits (hearing start.exchanges a.heard) start.exchanges start.news
    (links_of after))
    false next name plan
    (with_outfits link left_in link_faults 0 outfits (with_lent_tape name store.told store.count a))
    (with_outfits link left_in link_faults 0 after (with_lent_tape name back.told back.count b))
    made)
    (around_untold start.exchanges a unheard)
    (start.done.1 name a)))))))

pub returns-clause-bare : goal.returns-clause-bare
returns-clause-bare g c = later_bare g.L.Kms.link c.args.outfits.0 c.begin-made.result.2.0
    c.begin-made.ensures.later c.requires.bare
