-- The random source is the first of its seat again.
use Rattle.std.proofs.Common.{ℕ, option_map, refl}
use Rattle.kr_kms.specs.MemWorld.{dice_seat}
use Rattle.kr_kms.specs.Outside.{same_seat}
use Rattle.kr_kms.proofs.Lent.{not_taken, placed, returned, seats_decide}
use Rattle.kr_kms.proofs.mem_world.MemWorldWorld.back_dice.Goals as goal

pub unreachable-requires : goal.unreachable-requires
unreachable-requires g c =
    let test = λ (o : ℕ). same_seat o c.args.seat in
    absurd (not_taken test _ (placed test c.in_default.ensures.first c.taken_keys.ensures) c.requires)

pub returns-clause-back : goal.returns-clause-back
returns-clause-back g c =
    returned same_seat dice_seat (option_map (λ entry. entry.1.bytes))
    (λ entry. entry.1.calls.faults) seats_decide c.args.self.now.dice c.put_back.new.self
    c.in-Some.at c.args.seat (c.args.seat, c.args.dice) refl
    (placed (λ o. same_seat o c.args.seat) c.in-Some.ensures.first c.taken_keys.ensures)
    c.put_back.ensures
