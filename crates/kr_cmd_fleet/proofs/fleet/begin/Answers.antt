-- `begin`: what the replicas publish, and the workers.
use Rattle.std.proofs.Common.{◌≡◌, ℕ, List, [], ◌++◌, Option, Result, Ok, Err, inl, length, refl, sym, subst, ◌∙◌, arith}
use Rattle.std.specs.Prelude.{IfOk}
use Rattle.kr_cmd_fleet.specs.Fleets.{launching, publishing, starting, starting_with}
use Rattle.kr_cmd_fleet.specs.FirstItems.{watching}
use Rattle.kr_cmd_fleet.specs.inner.Plans.{named, plan_of}
use Rattle.kr_cmd_fleet.specs.inner.FleetOutcomes.{ArePublished, published_in}
use Rattle.kr_cmd_steps.specs.inner.Lent.{with_lent_tape}
use Rattle.kr_cmd_steps.specs.Environment.{Environment, with_exchanges}
use Rattle.kr_kms.specs.Exchanges.{Exchange}
use Rattle.kr_provider.specs.Publication.{Publication}
use Rattle.kr_cmd_messages.specs.declared.refusal.Stop.{Stop}
use Rattle.kr_cmd_steps.specs.Steps.{hearing}
use Rattle.kr_cmd_fleet.specs.inner.Outfits.{AreLater, links_of, with_outfits}
use Rattle.kr_cmd_fleet.specs.inner.Workings.{AsksOutfits, Outfits, TakesOutfits}
use Rattle.kr_cmd_steps.specs.inner.ProgramNames.{names_in}
use Rattle.kr_cmd_steps.specs.inner.Phases.{Does}
use Rattle.kr_cmd_steps.specs.inner.Tapes.{stored_of}
use Rattle.kr_opening.specs.Replicas.{IsFirstIn}
use Rattle.kr_cmd_fleet.specs.declared.watch_start.WatchStart.{WatchStart}
use Rattle.kr_cmd_fleet.specs.inner.Readings.{HasFirst, KnowsItems, read_in}
use Rattle.kr_cmd_fleet.specs.StartExchanges.{AsksFirst, OpenBy}
use Rattle.kr_cmd_fleet.proofs.FirstReads.{has_first, knows_behind}
use Rattle.kr_cmd_fleet.proofs.FleetRuns.{runs_so}
use Rattle.kr_cmd_fleet.proofs.StartExchanges.{asks_then, takes_asks}
use Rattle.kr_cmd_fleet.proofs.Plans.{plan_first, plan_replicas, plan_workers}
use Rattle.kr_cmd_fleet.proofs.Publishings.{open_on, published_first}
use Rattle.kr_cmd_steps.proofs.RunTo.{goes_on, stops}
use Rattle.kr_cmd_steps.proofs.Hearing.{around_more}
use Rattle.kr_cmd_fleet.proofs.Outfits.{later_many, later_named, later_trans}
use Rattle.kr_cmd_fleet.proofs.fleet.begin.Given.{Over}
use Rattle.kr_cmd_fleet.proofs.fleet.begin.Goals.{After-publish_first-published, After-read_first-read, In-Ok}
use Rattle.kr_cmd_fleet.proofs.fleet.begin.Goals as goal

-- ---- what the answers behind one place have in common

module _ (g : Over) (c : After-publish_first-published g) where
  abbrev Olds : Environment → Environment
  Olds a = with_outfits g.L.Kms.link g.D.Dice.left g.D.Dice.count 0 c.args.outfits.0 a

  abbrev Mids : Environment → Environment
  Mids a = with_outfits g.L.Kms.link g.D.Dice.left g.D.Dice.count 0
      c.publish_first-published.result.1.0 a

  publishes : (result : Result (List (Option Publication) × ℕ) Stop)
      → c.publish_first-published.result.0 ≡ result → (a : Environment)
      → Does (publishing (named c.args.plan.now.files.0) [] c.args.plan.now.script.replicas.0)
      (Olds a) (Mids (with_exchanges c.publish_first-published.ensures.does.0 a))
      (published_in result)
  publishes result is a = subst (λ r. Does
      (publishing (named c.args.plan.now.files.0) [] c.args.plan.now.script.replicas.0) (Olds a)
      (Mids (with_exchanges c.publish_first-published.ensures.does.0 a)) (published_in r)) is
      (c.publish_first-published.ensures.does.2 a)

published : (g : Over) (c : In-Ok g) → ArePublished (named c.args.plan.now.files.0)
    c.args.plan.now.script.replicas.0 c.in-Ok.replicas.0
published g c = let plan = c.args.plan.now in
    subst (λ r. IfOk r (λ made. ArePublished (named plan.files.0)
    plan.script.replicas.0 made.0)) c.in-Ok.is c.publish_first-published.ensures.replicas

module _ (g : Over) (c : After-read_first-read g) where
  abbrev mids : Outfits g.row.L.Denot g.row.D.Denot
  mids = c.publish_first-published.result.1.0

  abbrev outs : Outfits g.row.L.Denot g.row.D.Denot
  outs = c.read_first-read.result.1.0

  -- the exchanges of both
  abbrev all : List Exchange
  all = c.publish_first-published.ensures.does.0 ++ c.read_first-read.ensures.does.0

  asks : AsksFirst g.L.Kms.step all (links_of c.args.outfits.0) (links_of outs)
  asks = asks_then g.L.Kms.step c.publish_first-published.ensures.does.0
      c.read_first-read.ensures.does.0 (links_of c.args.outfits.0) (links_of mids) (links_of outs)
      c.publish_first-published.ensures.does.1 c.read_first-read.ensures.does.1

  later : AreLater g.L.Kms.link g.D.Dice.count c.args.outfits.0 outs
  later = later_trans g.L.Kms.link g.D.Dice.left g.D.Dice.count c.args.outfits.0 mids outs
      c.publish_first-published.ensures.later c.read_first-read.ensures.later

  -- around the outfits, behind the reading
  abbrev Read : (made : Result WatchStart Stop) → List (Option Publication) → (a end : Environment)
      → Type 0
  Read made replicas a end = Does (watching c.args.watched c.args.store.rows replicas)
      (with_outfits g.L.Kms.link g.D.Dice.left g.D.Dice.count 0 mids
      (with_exchanges c.publish_first-published.ensures.does.0 a))
      (with_outfits g.L.Kms.link g.D.Dice.left g.D.Dice.count 0 outs end) (read_in made)

  reads : (result : Result WatchStart Stop) → c.read_first-read.result.0 ≡ result → (a : Environment)
      → Read result c.in-Ok.replicas.0 a (with_exchanges all a)
  reads result is a =
      let es = c.publish_first-published.ensures.does.0 in
      let end = with_exchanges all a in
      subst (λ rs. Read result rs a end) c.as_slice.ensures
      (subst (λ r. Read r c.as_slice.result.now a end) is
      (subst (λ b. Read c.read_first-read.result.0 c.as_slice.result.now a b)
      (around_more es c.read_first-read.ensures.does.0 a)
      (c.read_first-read.ensures.does.2 (with_exchanges es a))))

-- ---- the answers

pub returns-in-Err-clause-made : goal.returns-in-Err-clause-made
returns-in-Err-clause-made g c =
    let plan = c.args.plan.now in
    let store = c.args.store in
    let here = (goal.at.returns-in-Err-clause-made g c).After-publish_first-published in record {
      exchanges = c.publish_first-published.ensures.does.0;
      news = links_of c.publish_first-published.result.1.0;
      asks = c.publish_first-published.ensures.does.1;
      done = (
        refl,
        λ name a.
            inl (stops (publishing (named plan.files.0) [] plan.script.replicas.0)
            (starting_with c.args.watched (plan_of plan) (stored_of store)
            c.args.budgets.now.entries.items) c.in-Err.stop
            (publishes g here (Err c.in-Err.stop) c.in-Err.is
            (with_lent_tape name store.told store.count a))),
      );
    }

pub read_first-read-requires : goal.read_first-read-requires
read_first-read-requires g c =
    let plan = c.args.plan.now in
    let outs = c.publish_first-published.result.1.0 in
    let made = c.in-Ok.replicas.0 in
    let all_published = published g (goal.at.read_first-read-requires g c).In-Ok in
    record {
      first = subst IsFirstIn (sym c.as_slice.ensures)
          (published_first (named plan.files.0) plan.script.replicas.0 made all_published
          (plan_replicas plan c.requires.plan).0 (plan_first plan c.requires.plan));
      some = omega (
        arith,
        (plan_workers plan c.requires.plan).0,
        c.requires.seats,
        later_many g.L.Kms.link g.D.Dice.left g.D.Dice.count c.args.outfits.0 outs
            c.publish_first-published.ensures.later,
      );
      links = subst (HasFirst g.L.Kms.link outs) (sym c.as_slice.ensures)
          (has_first g.L.Kms.link plan c.requires.plan outs made
          (later_named g.L.Kms.link g.D.Dice.left g.D.Dice.count (names_in plan.programs)
          c.args.outfits.0 outs c.publish_first-published.ensures.later c.requires.named)
          all_published);
    }

pub returns-in-Err-read-clause-made : goal.returns-in-Err-read-clause-made
returns-in-Err-read-clause-made g c =
    let here = goal.at.returns-in-Err-read-clause-made g c in
    let plan = c.args.plan.now in
    let budgets = c.args.budgets.now.entries.items in
    let made = c.in-Ok.replicas.0 in record {
      exchanges = all g here.After-read_first-read;
      news = links_of c.read_first-read.result.1.0;
      asks = asks g here.After-read_first-read;
      done = (
        refl,
        λ name a.
            let over = with_lent_tape name c.args.store.told c.args.store.count a in
            inl (goes_on (publishing (named plan.files.0) [] plan.script.replicas.0)
            (starting_with c.args.watched (plan_of plan) (stored_of c.args.store) budgets) made
            (publishes g here.After-publish_first-published (Ok c.in-Ok.replicas) c.in-Ok.is over)
            (stops (watching c.args.watched c.args.store.rows made)
            (starting (plan_of plan) (stored_of c.args.store) budgets made) c.in-Err-read.stop
            (reads g here.After-read_first-read (Err c.in-Err-read.stop) c.in-Err-read.is over))),
      );
    }

pub returns-in-Err-read-clause-later : goal.returns-in-Err-read-clause-later
returns-in-Err-read-clause-later g c =
    later g (goal.at.returns-in-Err-read-clause-later g c).After-read_first-read

pub run_core_and_workers-requires-clause-seats : goal.run_core_and_workers-requires-clause-seats
run_core_and_workers-requires-clause-seats g c = λ κs lives.
    later_many g.L.Kms.link g.D.Dice.left g.D.Dice.count c.args.outfits.0
    c.read_first-read.result.1.0
    (later g (goal.at.run_core_and_workers-requires-clause-seats g c).After-read_first-read)
    ∙ c.requires.seats

pub run_core_and_workers-requires-clause-named : goal.run_core_and_workers-requires-clause-named
run_core_and_workers-requires-clause-named g c = λ κs lives.
    later_named g.L.Kms.link g.D.Dice.left g.D.Dice.count (names_in c.args.plan.now.programs)
    c.args.outfits.0 c.read_first-read.result.1.0
    (later g (goal.at.run_core_and_workers-requires-clause-named g c).After-read_first-read)
    c.requires.named

pub run_core_and_workers-requires-clause-published :
    goal.run_core_and_workers-requires-clause-published
run_core_and_workers-requires-clause-published g c = λ κs lives.
    published g (goal.at.run_core_and_workers-requires-clause-published g c).In-Ok

pub run_core_and_workers-requires-clause-revision :
    goal.run_core_and_workers-requires-clause-revision
run_core_and_workers-requires-clause-revision g c = λ κs lives.
    subst (λ r. IfOk r (λ (s : WatchStart). s.revision ≡ length c.args.store.rows))
    c.in-Ok-read.is c.read_first-read.ensures.revision

pub returns-clause-made : goal.returns-clause-made
returns-clause-made g c =
    let here = goal.at.returns-clause-made g c in
    let plan = c.args.plan.now in
    let store = c.args.store in
    let budgets = c.args.budgets.now.entries.items in
    let outs = c.read_first-read.result.1.0 in
    let back = c.run_core_and_workers.result.2.0 in
    let kept = c.run_core_and_workers.result.1 in
    let items = c.in-Ok-read.start.items.0 in
    let made = c.in-Ok.replicas.0 in
    let es = c.publish_first-published.ensures.does.0 in
    let fs = c.read_first-read.ensures.does.0 in
    let both = es ++ fs in
    let known = knows_behind c.args.watched es fs store.rows made items
    (subst (λ rs. KnowsItems c.args.watched fs store.rows rs items) c.as_slice.ensures
    (subst (λ r. IfOk r (λ (s : WatchStart). KnowsItems c.args.watched fs store.rows
    c.as_slice.result.now s.items.0)) c.in-Ok-read.is c.read_first-read.ensures.does.3)) in
    let opens = open_on es fs made (subst (λ r. IfOk r (λ made. OpenBy es made.0)) c.in-Ok.is
    c.publish_first-published.ensures.does.3) in record {
      exchanges = both;
      news = links_of outs;
      asks = asks g here.After-read_first-read;
      done = (
        c.run_core_and_workers.ensures.idle,
        λ name a.
            let over = with_lent_tape name store.told store.count a in
            let first = Olds g here.After-publish_first-published over in
            let told = hearing both a.heard in
            runs_so g.row.T.Denot g.L.Kms.link g.L.Kms.step g.D.Dice.left g.D.Dice.count
            (TakesOutfits told both outs back)
            (AsksOutfits told both (links_of outs) (links_of back))
            (takes_asks told both outs back) c.args.watched
            (launching c.args.watched (plan_of plan) (stored_of store) budgets) name (plan_of plan)
            first (with_outfits g.L.Kms.link g.D.Dice.left g.D.Dice.count 0 back
            (with_lent_tape name kept.told kept.count (with_exchanges both a)))
            c.run_core_and_workers.result.0
            (c.run_core_and_workers.ensures.made name first (with_exchanges both a)
            c.args.outfits.0 both c.args.watched
            (record {
              are_named = c.requires.named;
              seats = c.requires.seats;
              later = later g here.After-read_first-read;
              onward = λ kept result d.
                  goes_on (publishing (named plan.files.0) [] plan.script.replicas.0)
                  (starting_with c.args.watched (plan_of plan) (stored_of store) budgets) made
                  (publishes g here.After-publish_first-published (Ok c.in-Ok.replicas)
                  c.in-Ok.is over)
                  (goes_on (watching c.args.watched store.rows made)
                  (starting (plan_of plan) (stored_of store) budgets made) items
                  (reads g here.After-read_first-read (Ok c.in-Ok-read.start) c.in-Ok-read.is over)
                  d);
              asks = asks g here.After-read_first-read;
              opens = opens;
              known = known;
            })),
      );
    }

pub returns-clause-later : goal.returns-clause-later
returns-clause-later g c = later_trans g.L.Kms.link g.D.Dice.left g.D.Dice.count
    c.args.outfits.0 c.read_first-read.result.1.0 c.run_core_and_workers.result.2.0
    (later g (goal.at.returns-clause-later g c).After-read_first-read)
    c.run_core_and_workers.ensures.later
