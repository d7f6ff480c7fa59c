-- New seats are callers over an opening that is legal.
use Rattle.std.proofs.Common.{◌≡◌, ℕ, ◌<◌, ◌≤◌, List, [], length, All, sym, subst, arith, ap, ◌∙◌}
use Rattle.std.specs.List.{range_with_len}
use Rattle.std.proofs.lemmas.List.FromFn.{length-range_with_len, get_or-range_with_len}
use mathlib.Core.Option.{some}
use lib.ListN.{get_elem?}
use Rattle.atomic_table.proofs.Lists.{at_map}
use Rattle.kr_base.specs.Lines.{of_seat}
use Rattle.kr_turn.specs.Keys.{Home}
use Rattle.kr_turn.specs.Seats.{IsFresh, AreFresh, number_of}
use Rattle.kr_turn.specs.declared.seat.Place.{Place}
use Rattle.kr_turn.proofs.Rows.{get_at, All-by_elem, All-elem}
use Rattle.kr_rollout.specs.declared.opening.Entry.{Entry}
use Rattle.kr_rollout.specs.declared.opening.Opening.{Opening}
use Rattle.kr_rollout.specs.Entries.{seat_of}
use Rattle.kr_rollout.specs.Histories.{IsLegal}
use Rattle.kr_fleet.specs.Fleets.{IsFleetSeat}

below : (count k number : ℕ) → get_elem? (range_with_len 0 count) k ≡ some number → number < count
below count k number e =
    let at = get_at (range_with_len 0 count) k number number e in
    let inside : k < count = omega (arith, at.0, length-range_with_len 0 count) in
    let is = get_or-range_with_len 0 count k number inside in
    omega (arith, at.1, is)

module _ {S : Type 0} (home : Home Opening) where
  pub fresh_seats : (count : ℕ) (seats : List (Place S Entry Opening)) → AreFresh home count seats
      → count ≤ length home.terms.basis.reloads → IsLegal home.terms.basis []
      → All (IsFleetSeat home) seats
  fresh_seats count seats fresh few legal = All-by_elem (IsFleetSeat home) seats (λ k seat e.
      let one = All-elem (IsFresh home) seats fresh.each k seat e in
      let low : number_of seat < count = below count k (number_of seat)
      (sym (ap (λ l. get_elem? l k) fresh.numbers) ∙ at_map number_of seats k seat e) in
      record {
        its = one.its;
        caller = record {
          legal = subst (IsLegal home.terms.basis) (sym one.none_seen) legal;
          own = ap (of_seat seat_of (number_of seat)) one.none_seen ∙ sym one.none_mine;
          seat_in = omega arith;
        };
      })
