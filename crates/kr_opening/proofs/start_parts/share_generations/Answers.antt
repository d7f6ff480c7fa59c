-- Answers of share_generations.
use Rattle.std.proofs.Common.{◌+◌, List, sym, subst, arith}
use Rattle.kr_opening.specs.declared.generation.Generation.{Generation}
use Rattle.kr_opening.proofs.Sharing.{AreMade, made_step, made_all}
use Rattle.kr_opening.proofs.start_parts.share_generations.Goals as goal

pub loop-replica-preserved : goal.loop-replica-preserved
loop-replica-preserved c =
    let l = c.loop-replica in
    let rs = c.args.replicas.now in
    subst (λ (g : List Generation). AreMade rs g (l.replica + 1))
    (sym c.in_ok-add_generation.ensures)
    (made_step rs l.generations.items l.replica c.index-replicas-replica.result l.invariant
    (omega arith) c.index-replicas-replica.is)

pub returns-clause-generations : goal.returns-clause-generations
returns-clause-generations c =
    let l = c.loop-replica in
    made_all c.args.replicas.now l.generations.items c.from_vec-generations.result.0
    c.reserve.new.self.0 l.replica l.invariant (omega arith) c.from_vec-generations.ensures
    c.reserve.ensures.items
