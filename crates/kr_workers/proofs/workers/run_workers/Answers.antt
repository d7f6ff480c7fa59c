-- `run_workers`: each worker was ready, and did its lines.
use Rattle.std.proofs.Common.{◌<◌, ◌++◌, length, List, drop, take, subst, sym, ◌∙◌}
use Rattle.std.specs.Prelude.{All}
use Rattle.std.proofs.lemmas.List.{take_at}
use Rattle.kr_workers.specs.inner.SeatedWorkers.{IsReadyWorker}
use Rattle.kr_workers.specs.declared.worker.Worker.{Worker}
use Rattle.kr_workers.proofs.Working.{worked_at}
use Rattle.kr_workers.proofs.workers.run_workers.Goals as goal

pub for_each_mut-requires-clause-accepts : goal.for_each_mut-requires-clause-accepts
for_each_mut-requires-clause-accepts g c κs within = λ i p below is.
    let Ready : Worker g.row.T.Denot g.row.L.Denot g.row.D.Denot → Type 0 =
    IsReadyWorker c.args.fleet.now c.args.files.now c.args.parts.now g.L.Kms.link in
    let all : All Ready c.deref_mut.result.now =
    subst (λ l. All Ready l) (sym c.deref_mut.ensures.value) c.requires.ready in
    subst Ready (sym is) (all i p.now below)

pub returns-clause-worked : goal.returns-clause-worked
returns-clause-worked g c = λ i d below.
    let change = (c.for_each_mut.ensures i d
    (subst (λ (l : List (Worker g.row.T.Denot g.row.L.Denot g.row.D.Denot)). i < length l)
    (sym c.deref_mut.ensures.value) below)).1 in
    worked_at c.args.fleet.now c.args.files.now c.args.parts.now g.L.Kms.link g.L.Kms.step
    g.D.Dice.left g.D.Dice.count c.args.workers.now.items c.deref_mut.result.now
    c.for_each_mut.new.s (take c.args.workers.now.len (c.for_each_mut.new.s
    ++ drop (length c.for_each_mut.new.s) c.args.workers.now.items)) i d change.argument.now
    change.after_call.now
    c.deref_mut.ensures.value
    (take_at _ _ _ (c.for_each_mut.auto.s ∙ c.deref_mut.ensures.len)) change.argument_is
    change.left change.call
