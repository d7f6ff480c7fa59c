-- The first random source of the seat goes out.
use Rattle.std.proofs.Common.{inl, inr, option_map, refl, sym, ◌∙◌, ap}
use Rattle.std.specs.List.{remove}
use Rattle.std.specs.Option.{option_map_or}
use Rattle.kr_kms.specs.MemWorld.{DiceShelf, dice_seat}
use Rattle.kr_kms.specs.Outside.{same_seat}
use Rattle.kr_kms.proofs.Lent.{lent, none_given, of_key, one_given, placed, seats_decide, some_given}
use Rattle.kr_kms.proofs.mem_world.MemWorldWorld.dice.Goals as goal

pub returns-in_default-clause-refusals : goal.returns-in_default-clause-refusals
returns-in_default-clause-refusals g c = inl refl

pub returns-in_default-clause-gives : goal.returns-in_default-clause-gives
returns-in_default-clause-gives g c = (
  none_given (λ entry. entry.1) (of_key same_seat dice_seat c.args.seat) c.in_default.ensures.first
      c.items.ensures,
  c.rise.ensures.next,
)

pub returns-in-Ok-clause-gives : goal.returns-in-Ok-clause-gives
returns-in-Ok-clause-gives g c = (
  one_given (λ entry. entry.1) (of_key same_seat dice_seat c.args.seat) c.in-Some.ensures.first
      c.items.ensures c.in-Ok.ensures.lent,
  refl,
)

pub returns-in-Ok-clause-gone : goal.returns-in-Ok-clause-gone
returns-in-Ok-clause-gone g c =
    let old = c.args.self.now.dice.items in
    ap (λ (s : DiceShelf). s.items) c.in-Ok.ensures.ok
    ∙ ap (λ place. option_map_or (remove old) place old)
    (sym (placed (of_key same_seat dice_seat c.args.seat) c.in-Some.ensures.first c.items.ensures))

pub returns-in-Ok-clause-ok : goal.returns-in-Ok-clause-ok
returns-in-Ok-clause-ok g c =
    lent same_seat dice_seat (option_map (λ entry. entry.1.bytes)) (λ entry. entry.1.calls.faults)
    seats_decide c.args.self.now.dice c.lend.new.self c.in-Some.at c.args.seat
    (c.in-Ok._seat, c.in-Ok.dice)
    (placed (of_key same_seat dice_seat c.args.seat) c.in-Some.ensures.first c.items.ensures)
    c.in-Ok.ensures.lent c.in-Ok.ensures.ok refl refl

pub returns-in-Ok-clause-left : goal.returns-in-Ok-clause-left
returns-in-Ok-clause-left g c = sym (one_given (λ entry. entry.1.bytes)
    (of_key same_seat dice_seat c.args.seat) c.in-Some.ensures.first c.items.ensures
    c.in-Ok.ensures.lent)

pub returns-in-Err-clause-gives : goal.returns-in-Err-clause-gives
returns-in-Err-clause-gives g c = (
  some_given (λ entry. entry.1) (of_key same_seat dice_seat c.args.seat) c.in-Some.ensures.first
      c.items.ensures,
  refl,
)

pub returns-in-Err-clause-asked : goal.returns-in-Err-clause-asked
returns-in-Err-clause-asked g c = inl refl

pub returns-in-Err-clause-refusals : goal.returns-in-Err-clause-refusals
returns-in-Err-clause-refusals g c = inr refl
