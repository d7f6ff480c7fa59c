-- `run_outfitted_fleet`: the outfits are borrowed for what follows, and come back.
use Rattle.std.proofs.Common.{◌≡◌, ◌∙◌, ℕ, List, [], Result, Err, ap, arith, length, refl, subst, sym}
use Rattle.std.proofs.lemmas.List.{length-map}
use Rattle.kr_script.specs.Fleets.{worker_of}
use Rattle.kr_cmd_steps.specs.Environment.{Environment, with_exchanges, with_world}
use Rattle.kr_cmd_steps.specs.Steps.{Steps, hearing}
use Rattle.kr_cmd_messages.specs.declared.refusal.Stop.{Stop}
use Rattle.kr_cmd_fleet.specs.FleetFiles.{all_rows}
use Rattle.kr_cmd_fleet.specs.Fleets.{Begun, equipping, equipping_all, launching}
use Rattle.kr_cmd_fleet.specs.declared.fleet.Record.{Record}
use Rattle.kr_cmd_fleet.specs.inner.Plans.{plan_of}
use Rattle.kr_cmd_fleet.specs.inner.FleetOutcomes.{Beginning, RunsBy}
use Rattle.kr_cmd_steps.specs.inner.Lent.{with_lent_tape}
use Rattle.kr_cmd_fleet.specs.inner.Outfits.{AreNamed, links_of, with_outfits}
use Rattle.kr_cmd_fleet.specs.inner.Workings.{AsksOutfits, BeginsLent}
use Rattle.kr_cmd_steps.specs.inner.ProgramNames.{names_in}
use Rattle.kr_cmd_steps.specs.inner.Tapes.{stored_of}
use Rattle.kr_cmd_steps.proofs.Hearing.{around_none}
use Rattle.kr_cmd_fleet.proofs.FleetRuns.{runs_so}
use Rattle.kr_cmd_fleet.proofs.StartExchanges.{asks_lent, idle_were}
use Rattle.kr_cmd_fleet.proofs.FleetOutfits.{runs_equipped, runs_unequipped}
use Rattle.kr_cmd_fleet.proofs.Outfits.{later_many, later_named}
use Rattle.kr_cmd_fleet.proofs.Plans.{plan_workers}
use Rattle.kr_cmd_fleet.proofs.fleet.run_outfitted_fleet.Given.{Over}
use Rattle.kr_cmd_fleet.proofs.fleet.run_outfitted_fleet.Goals.{After-open_outfits-opened}
use Rattle.kr_cmd_fleet.proofs.fleet.run_outfitted_fleet.Goals as goal

pub overflow_cast-seats : goal.overflow_cast-seats
overflow_cast-seats g c = omega (
  arith,
  (plan_workers c.args.plan.now c.requires.plan).1,
  ap length c.as_slice.ensures,
)

pub open_outfits-opened-requires-clause-none : goal.open_outfits-opened-requires-clause-none
open_outfits-opened-requires-clause-none g c κs within = c.new-outfits.ensures

pub open_outfits-opened-requires-clause-programs : goal.open_outfits-opened-requires-clause-programs
open_outfits-opened-requires-clause-programs g c κs within = (
  all_rows (plan_of c.args.plan.now).files,
  ap names_in c.as_slice-2.ensures ∙ c.requires.plan.programs,
)

pub begin-made-requires-clause-seats : goal.begin-made-requires-clause-seats
begin-made-requires-clause-seats g c κs within = c.in-Ok.ensures.many ∙ ap length c.as_slice.ensures

pub begin-made-requires-clause-named : goal.begin-made-requires-clause-named
begin-made-requires-clause-named g c κs within =
    subst (λ ps. AreNamed g.W.Link.Kms.link (names_in ps) c.open_outfits-opened.new.outfits.0)
    c.as_slice-2.ensures c.in-Ok.ensures.named

pub close_outfits-requires-clause-out : goal.close_outfits-requires-clause-out
close_outfits-requires-clause-out g c κs within =
    let names = names_in c.as_slice-2.result.now in
    let opened = c.open_outfits-opened.new.outfits.0 in
    let closed = c.begin-made.result.2.0 in (
      names,
      later_named g.W.Link.Kms.link g.W.Rand.Dice.left g.W.Rand.Dice.count names opened closed
          c.begin-made.ensures.later c.in-Ok.ensures.named,
      λ seat lt. c.in-Ok.ensures.out seat (omega (
        arith,
        lt,
        later_many g.W.Link.Kms.link g.W.Rand.Dice.left g.W.Rand.Dice.count opened closed
            c.begin-made.ensures.later,
      )),
    )

pub close_outfits-requires-clause-few : goal.close_outfits-requires-clause-few
close_outfits-requires-clause-few g c κs within = omega (
  arith,
  later_many g.W.Link.Kms.link g.W.Rand.Dice.left g.W.Rand.Dice.count
      c.open_outfits-opened.new.outfits.0
      c.begin-made.result.2.0 c.begin-made.ensures.later,
  c.in-Ok.ensures.few,
  ap length c.as_slice.ensures,
  (plan_workers c.args.plan.now c.requires.plan).1,
)

pub close_outfits-requires-in-Err-clause-out : goal.close_outfits-requires-in-Err-clause-out
close_outfits-requires-in-Err-clause-out g c κs within =
    (names_in c.as_slice-2.result.now, c.in-Err.ensures.named, c.in-Err.ensures.out)

pub close_outfits-requires-in-Err-clause-few : goal.close_outfits-requires-in-Err-clause-few
close_outfits-requires-in-Err-clause-few g c κs within = omega (
  arith,
  c.in-Err.ensures.few,
  ap length c.as_slice.ensures,
  (plan_workers c.args.plan.now c.requires.plan).1,
)

-- what ran by the programs and the seats as they were opened ran by those of the plan
module _ (g : Over) (c : After-open_outfits-opened g) where
  abbrev next : Steps Begun
  next = launching c.args.watched (plan_of c.args.plan.now) (stored_of c.args.store)
      c.args.budgets.now.entries.items

  abbrev Runs : Beginning g.row.W-Tap.Denot g.row.W-Link.Denot g.row.W-Rand.Denot → Steps Begun
      → (name : List ℕ) → (old new : Environment) → Result Record Stop → Type 0
  Runs Begins steps name old new made = RunsBy g.row.W-Tap.Denot g.W.Link.Kms.link
      g.W.Link.Kms.step g.W.Rand.Dice.left g.W.Rand.Dice.count Begins c.args.watched steps name
      (plan_of c.args.plan.now) old new made

  by_plan : (Begins : Beginning g.row.W-Tap.Denot g.row.W-Link.Denot g.row.W-Rand.Denot)
      (name : List ℕ) (old new : Environment) (made : Result Record Stop)
      → Runs Begins (equipping c.as_slice-2.result.now 0 (length c.as_slice.result.now) next)
      name old new made
      → Runs Begins (equipping_all c.args.watched (plan_of c.args.plan.now)
      (stored_of c.args.store) c.args.budgets.now.entries.items) name old new made
  by_plan Begins name old new made ran =
      let seats : length c.as_slice.result.now ≡ length (plan_of c.args.plan.now).fleet.workers =
      ap length c.as_slice.ensures
      ∙ sym (length-map c.args.plan.now.script.workers.0 worker_of) in
      subst (λ ps. Runs Begins (equipping ps 0 (length (plan_of c.args.plan.now).fleet.workers)
      next) name old new made) c.as_slice-2.ensures
      (subst (λ n. Runs Begins (equipping c.as_slice-2.result.now 0 n next) name old new made)
      seats ran)

pub returns-in-Ok-clause-made : goal.returns-in-Ok-clause-made
returns-in-Ok-clause-made g c =
    let here = (goal.at.returns-in-Ok-clause-made g c).After-open_outfits-opened in
    let store = c.args.store in
    let plan = plan_of c.args.plan.now in
    let link = g.W.Link.Kms.link in
    let step = g.W.Link.Kms.step in
    let old = g.W.World.told c.args.world.now in
    let mid = g.W.World.told c.open_outfits-opened.new.world in
    let new = g.W.World.told c.close_outfits.new.world in
    let made = c.begin-made.result.0 in
    let kept = c.begin-made.result.1 in
    let back = c.begin-made.result.2.0 in
    let olds = c.open_outfits-opened.new.outfits.0 in
    let start = c.begin-made.ensures.made in
    let es = start.exchanges in record {
      exchanges = es;
      asked = record {
        given = links_of olds;
        begun = start.news;
        back = links_of back;
        handed = c.close_outfits.ensures.handed ∙ c.in-Ok.ensures.handed;
        lent_are = c.in-Ok.ensures.lent;
        asks = start.asks;
        took_are = c.close_outfits.ensures.taken;
      };
      done = (
        start.done.0,
        λ name a.
            let told = hearing es a.heard in
            let Begins = BeginsLent told es step g.W.World.lent g.W.World.took
            start.news (links_of back) in
            let behind = with_exchanges es a in
            by_plan g here Begins name (with_lent_tape name store.told store.count
            (with_world old a)) (with_lent_tape name kept.told kept.count (with_world new behind))
            made
            (runs_equipped g.row.W-Tap.Denot link step g.W.Rand.Dice.left g.W.Rand.Dice.count
            Begins c.args.watched name plan a
            c.as_slice-2.result.now (length c.as_slice.result.now) (next g here) old mid new olds
            c.in-Ok.ensures.tapes c.close_outfits.ensures.tapes behind store.told kept.told
            store.count kept.count back c.in-Ok.ensures.does c.close_outfits.ensures.back made
            (runs_so g.row.W-Tap.Denot link step g.W.Rand.Dice.left g.W.Rand.Dice.count
            (AsksOutfits told es start.news (links_of back)) Begins
            (asks_lent told es step g.W.World.lent g.W.World.took (links_of olds) start.news
            (links_of back) c.in-Ok.ensures.lent start.asks c.close_outfits.ensures.taken)
            c.args.watched (next g here) name plan
            (with_outfits link g.W.Rand.Dice.left g.W.Rand.Dice.count 0 olds
            (with_lent_tape name store.told store.count (with_world mid a)))
            (with_outfits link g.W.Rand.Dice.left g.W.Rand.Dice.count 0 back
            (with_lent_tape name kept.told kept.count (with_world mid behind))) made
            (start.done.1 name (with_world mid a)))),
      );
    }

pub returns-in-Err-clause-made : goal.returns-in-Err-clause-made
returns-in-Err-clause-made g c =
    let here = (goal.at.returns-in-Err-clause-made g c).After-open_outfits-opened in
    let store = c.args.store in
    let plan = plan_of c.args.plan.now in
    let new = g.W.World.told c.close_outfits-in-Err.new.world in
    let opened = links_of c.open_outfits-opened.new.outfits.0 in
    let asked = idle_were g.W.Link.Kms.link g.W.World.lent g.W.World.took g.W.Link.Kms.step opened
    c.in-Err.ensures.handed c.close_outfits-in-Err.ensures.handed c.in-Err.ensures.lent
    c.close_outfits-in-Err.ensures.taken in record {
      exchanges = [];
      asked = asked;
      done = (
        refl,
        λ name a.
            let Begins = BeginsLent (hearing [] a.heard) [] g.W.Link.Kms.step g.W.World.lent
            g.W.World.took asked.begun asked.back in
            let before = with_lent_tape name store.told store.count
            (with_world (g.W.World.told c.args.world.now) a) in
            let after : Environment → Environment = λ b. with_lent_tape name store.told store.count
            (with_world new b) in
            let stop = c.in-Err.stop in
            subst (λ b. Runs g here Begins (equipping_all c.args.watched plan (stored_of store)
            c.args.budgets.now.entries.items) name before (after b) (Err stop)) (sym (around_none a))
            (by_plan g here Begins name before (after a) (Err stop)
            (runs_unequipped g.row.W-Tap.Denot g.W.Link.Kms.link g.W.Link.Kms.step
            g.W.Rand.Dice.left g.W.Rand.Dice.count Begins c.args.watched name plan a
            c.as_slice-2.result.now (length c.as_slice.result.now) (next g here)
            (g.W.World.told c.args.world.now) (g.W.World.told c.open_outfits-opened.new.world) new
            c.open_outfits-opened.new.outfits.0 c.in-Err.ensures.tapes
            c.close_outfits-in-Err.ensures.tapes store.told store.count stop c.in-Err.ensures.does
            c.close_outfits-in-Err.ensures.back)),
      );
    }
