-- The count of the tape is the first of its name again.
use Rattle.std.proofs.Common.{ℕ, List, None}
use Rattle.kr_kms.specs.Outside.{same_name}
use Rattle.kr_edge.specs.RealWorld.{count_of}
use Rattle.kr_kms.proofs.Lent.{not_taken, placed, returned_keyed, names_decide}
use Rattle.kr_edge.proofs.real_world.RealWorldWorld.back_tape.Goals as goal

pub unreachable-requires : goal.unreachable-requires
unreachable-requires g c =
    let test = λ (o : List ℕ). same_name o c.args.name.now in
    absurd (not_taken test _ (placed test c.in_default.ensures.first c.taken_keys.ensures) c.requires)

pub returns-clause-back : goal.returns-clause-back
returns-clause-back g c =
    returned_keyed same_name (λ first. None) count_of names_decide c.args.self.now.tapes
    c.return_keyed.new.self c.in-Some.at c.args.name.now c.args.tape.faults c.close.ensures
    (placed (λ o. same_name o c.args.name.now) c.in-Some.ensures.first c.taken_keys.ensures)
    (c.return_keyed.ensures c.args.name.now)
