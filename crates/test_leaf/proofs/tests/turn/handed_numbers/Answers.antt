use Rattle.std.proofs.Common.{length, All, ap, sym, subst}
use Rattle.kr_turn.specs.Seats.{IsSeatOf, AreAll}
use Rattle.kr_turn.proofs.Rows.{all_fresh, all_again, same_numbers}
use Rattle.test_leaf.proofs.tests.turn.handed_numbers.Goals as goal

pub hand_over_each-requires-after_bounds : goal.hand_over_each-requires-after_bounds
hand_over_each-requires-after_bounds g c κs within =
    let made = c.in-Ok-new.made in
    let all = all_fresh made.0 _ made.1.0 (ap (λ t. length t.budgets) (sym c.in-Ok-new.ensures.terms)) c.in-Ok-new.ensures.seats in
    subst (λ l. All (IsSeatOf made.0) l) (sym c.into_vec-row.ensures) all.its

pub close-requires-after_bounds : goal.close-requires-after_bounds
close-requires-after_bounds g c κs within =
    let made = c.in-Ok-new.made in
    let all = all_fresh made.0 _ made.1.0 (ap (λ t. length t.budgets) (sym c.in-Ok-new.ensures.terms)) c.in-Ok-new.ensures.seats in
    let row = c.into_vec-row.result.items in
    let again = c.hand_over_each.new.seats.items in
    let turned = all_again made.0 row again (subst (λ l. AreAll made.0 l) (sym c.into_vec-row.ensures) all) c.hand_over_each.ensures.its (same_numbers made.0 row again c.hand_over_each.ensures.length c.hand_over_each.ensures.numbers) in
    subst (λ l. AreAll made.0 l) (sym c.from_vec.ensures) turned
