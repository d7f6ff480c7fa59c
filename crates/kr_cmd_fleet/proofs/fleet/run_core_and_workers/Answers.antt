-- `run_core_and_workers`: the core, and the workers.
use Rattle.std.proofs.Common.{Ok, Err, ap, inl, inr, length, sym, subst, ◌∙◌, arith}
use Rattle.kr_rollout.specs.Cores.{CoreState}
use Rattle.kr_store.specs.Stores.{Kept}
use Rattle.kr_workers.specs.Budgets.{AreBudgets}
use Rattle.kr_cmd_fleet.specs.Fleets.{launching}
use Rattle.kr_cmd_fleet.specs.inner.Beginnings.{begun_with}
use Rattle.kr_cmd_fleet.specs.inner.Plans.{named, plan_of}
use Rattle.kr_cmd_fleet.specs.inner.Outfits.{AreLater, AreNamed, links_of}
use Rattle.kr_cmd_steps.specs.inner.ProgramNames.{names_in}
use Rattle.kr_cmd_steps.specs.inner.Phases.{Does}
use Rattle.kr_cmd_steps.specs.inner.Tapes.{stored_of}
use Rattle.kr_cmd_fleet.specs.inner.Workings.{with_crew}
use Rattle.kr_cmd_fleet.proofs.Crews.{all_cold}
use Rattle.kr_cmd_fleet.proofs.FleetCrews.{closed_at_once, crew_idle, ran_back, ran_with, ready, unhired}
use Rattle.kr_cmd_fleet.proofs.Outfits.{later_refl}
use Rattle.kr_cmd_fleet.proofs.Plans.{plan_first, plan_names, plan_replicas}
use Rattle.kr_cmd_fleet.proofs.Publishings.{published_among, published_first, published_many}
use Rattle.kr_cmd_fleet.proofs.fleet.run_core_and_workers.Goals as goal

pub start_core-requires-clause-first : goal.start_core-requires-clause-first
start_core-requires-clause-first g c =
    let plan = c.args.plan.now in
    published_first (named plan.files.0) plan.script.replicas.0 c.args.replicas.0
    c.requires.published (plan_replicas plan c.requires.plan).0 (plan_first plan c.requires.plan)

pub start_core-requires-clause-replicas : goal.start_core-requires-clause-replicas
start_core-requires-clause-replicas g c =
    let plan = c.args.plan.now in
    omega (
      arith,
      published_many (named plan.files.0) plan.script.replicas.0 c.args.replicas.0
          c.requires.published,
      (plan_replicas plan c.requires.plan).1,
    )

pub start_core-requires-clause-names : goal.start_core-requires-clause-names
start_core-requires-clause-names g c =
    let plan = c.args.plan.now in
    published_among (named plan.files.0) (names_in plan.programs)
    (plan_names plan c.requires.plan) plan.script.replicas.0 c.args.replicas.0
    c.requires.published

pub returns-in-Err-clause-made : goal.returns-in-Err-clause-made
returns-in-Err-clause-made g c name first a olds es watched p =
    let plan = c.args.plan.now in
    let budgets = c.args.budgets.now.entries.items in
    let link = g.L.Kms.link in
    let left = g.D.Dice.left in
    let count = g.D.Dice.count in
    let store = c.args.store in
    let outs = c.args.outfits.0 in
    inl (subst (λ (k : Kept). Does (launching watched (plan_of plan) (stored_of store) budgets)
    first (with_crew link left count name k outs a)
    (Err c.in-Err.stop)) (sym c.in-Err.ensures.back)
    (p.onward store (Err c.in-Err.stop)
    (c.in-Err.ensures.does (with_crew link left count name store outs a) c.args.start.items.0)))

pub returns-in-Err-clause-later : goal.returns-in-Err-clause-later
returns-in-Err-clause-later g c =
    later_refl g.L.Kms.link g.D.Dice.left g.D.Dice.count c.args.outfits.0

pub hire-requires : goal.hire-requires
hire-requires g c = record {
  many = c.requires.seats ∙ sym (ap length c.as_slice.ensures);
}

pub returns-in-Err-hire-clause-made : goal.returns-in-Err-hire-clause-made
returns-in-Err-hire-clause-made g c name first a olds es watched p =
    let plan = c.args.plan.now in
    let link = g.L.Kms.link in
    let left = g.D.Dice.left in
    let count = g.D.Dice.count in
    let store = c.args.store in
    let outs = c.args.outfits.0 in
    let core = c.in-Ok.core in
    let none = ap (λ (k : CoreState). k.history) c.in-Ok.ensures.core in
    let kept = c.close-store.result.0 in
    let k = closed_at_once core kept none c.close-store.ensures.rows c.close-store.ensures.count
    c.close-store.ensures.format c.close-store.ensures.torn c.known.ensures in
    inr (unhired link g.L.Kms.step left count watched plan c.requires.plan
    c.args.budgets.now.entries.items name a store olds outs first c.args.replicas.0 es
    c.args.start
    (p.onward store (Ok (begun_with plan c.args.budgets.now.entries.items store c.args.replicas.0
    c.args.start.items.0)) (c.in-Ok.ensures.does (with_crew link left count name store outs a)
    c.args.start.items.0)) p.known p.asks p.opens c.requires.revision p.are_named p.seats p.later
    c.requires.published c.requires.store c.args.budgets.now.reloads.items
    c.requires.reloads core.opening (ap (λ (k : CoreState). k.opening) c.in-Ok.ensures.core)
    g.row.T.Denot kept k c.in-Err-hire.outfits.0 c.in-Err-hire.ensures.returned)

pub returns-in-Err-hire-clause-later : goal.returns-in-Err-hire-clause-later
returns-in-Err-hire-clause-later g c = subst (λ os. AreLater g.L.Kms.link g.D.Dice.count
    c.args.outfits.0 os) (sym c.in-Err-hire.ensures.returned)
    (later_refl g.L.Kms.link g.D.Dice.left g.D.Dice.count c.args.outfits.0)

pub run_crew-requires-clause-core : goal.run_crew-requires-clause-core
run_crew-requires-clause-core g c = λ κs lives.
    let plan = c.args.plan.now in
    ready plan c.args.budgets.now.entries.items c.args.budgets.now.reloads.items c.args.store
    c.args.replicas.0 c.in-Ok.core c.in-Ok.ensures.core c.requires.reloads
    (published_many (named plan.files.0) plan.script.replicas.0 c.args.replicas.0
    c.requires.published)

pub run_crew-requires-clause-entries : goal.run_crew-requires-clause-entries
run_crew-requires-clause-entries g c = λ κs lives. subst (λ rows. AreBudgets rows
    c.args.plan.now.script.workers.0 c.args.budgets.now.entries.items)
    (sym (ap (λ (k : CoreState). k.opening.rows) c.in-Ok.ensures.core)) c.requires.entries

pub run_crew-requires-clause-named : goal.run_crew-requires-clause-named
run_crew-requires-clause-named g c = λ κs lives.
    let names = names_in c.args.plan.now.programs in
    subst (λ os. AreNamed g.L.Kms.link names os) (sym c.in-Ok-hire.ensures.hired.outfits_are)
    c.requires.named

pub returns-clause-made : goal.returns-clause-made
returns-clause-made g c name first a olds es watched p =
    let plan = c.args.plan.now in
    let link = g.L.Kms.link in
    let left = g.D.Dice.left in
    let count = g.D.Dice.count in
    let store = c.args.store in
    let outs = c.args.outfits.0 in
    let hired = c.in-Ok-hire.ensures.hired in
    ran_with link g.L.Kms.step left count watched plan c.requires.plan
    c.args.budgets.now.entries.items name a store olds outs first c.args.replicas.0 es
    c.args.start
    (p.onward store (Ok (begun_with plan c.args.budgets.now.entries.items store c.args.replicas.0
    c.args.start.items.0)) (c.in-Ok.ensures.does (with_crew link left count name store outs a)
    c.args.start.items.0)) p.known p.asks p.opens c.requires.revision p.are_named p.seats p.later
    c.requires.published c.requires.store c.args.budgets.now.reloads.items
    c.requires.reloads c.in-Ok.core.opening
    (ap (λ (k : CoreState). k.opening) c.in-Ok.ensures.core) c.in-Ok-hire.crew.workers.items
    hired.outfits_are (hired.many ∙ ap length c.as_slice.ensures)
    (all_cold _ _ c.in-Ok-hire.crew.workers.items hired) c.run_crew.result.1
    c.run_crew.result.2.0 c.run_crew.result.0 c.run_crew.ensures.ran

pub returns-clause-later : goal.returns-clause-later
returns-clause-later g c = ran_back g.L.Kms.link g.L.Kms.step g.D.Dice.left
    g.D.Dice.count
    c.args.plan.now c.args.budgets.now.entries.items c.args.outfits.0 c.args.outfits.0
    (later_refl g.L.Kms.link g.D.Dice.left g.D.Dice.count c.args.outfits.0)
    c.in-Ok.core.opening c.args.start c.in-Ok-hire.crew.workers.items
    c.in-Ok-hire.ensures.hired.outfits_are c.run_crew.result.1 c.run_crew.result.2.0
    c.run_crew.result.0 c.run_crew.ensures.ran

pub returns-in-Err-hire-clause-idle : goal.returns-in-Err-hire-clause-idle
returns-in-Err-hire-clause-idle g c = ap links_of c.in-Err-hire.ensures.returned

pub returns-clause-idle : goal.returns-clause-idle
returns-clause-idle g c = crew_idle g.L.Kms.link g.L.Kms.step g.D.Dice.left g.D.Dice.count
    c.args.plan.now c.args.budgets.now.entries.items c.args.outfits.0
    c.in-Ok.core.opening c.args.start c.in-Ok-hire.crew.workers.items
    c.in-Ok-hire.ensures.hired.outfits_are c.run_crew.result.1 c.run_crew.result.2.0
    c.run_crew.result.0 c.run_crew.ensures.ran
