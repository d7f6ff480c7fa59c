-- What a fleet's seats know of the history at its end.
use Rattle.std.proofs.Common.{◌≡◌, ℕ, zero, suc, ◌<◌, ◌≤◌, ◌==◌, ◌⊎◌, inl, inr, ⊎_elim, Bool, true, false, cond, List, [], ◌∷◌, ◌++◌, length, map, All, Contains, sym, subst, refl, arith, ap, ◌∙◌}
use Rattle.std.specs.List.{filter}
use Rattle.std.proofs.lemmas.Bool.{eq-eqb}
use Rattle.std.proofs.lemmas.List.Elements.{All-contains, Contains-append_right}
use mathlib.Core.Option.{some, some-injective, some-ne-none}
use lib.ListN.{get_elem?}
use Rattle.kr_base.specs.Lines.{of_seat, Stands}
use Rattle.kr_kms.specs.Opens.{Opens}
use Rattle.kr_turn.specs.Keys.{Home}
use Rattle.kr_turn.specs.Seats.{AreAll, number_of, lines_seen, mine}
use Rattle.kr_turn.specs.declared.seat.Place.{Place}
use Rattle.kr_turn.proofs.Rows.{get_at, map_from, All-by_elem, Contains-elem}
use Rattle.kr_rollout.specs.declared.opening.Entry.{Entry}
use Rattle.kr_rollout.specs.declared.opening.Opening.{Opening}
use Rattle.kr_rollout.specs.Entries.{seat_of}
use Rattle.kr_rollout.specs.Histories.{IsLegal}
use Rattle.kr_history.specs.Honesty.{KeepsHonest}
use Rattle.kr_history.proofs.HonestSeats.{honest_by_seats}
use Rattle.kr_history.proofs.KeptHonest.{honesty_stands}
use Rattle.kr_fleet.specs.Fleets.{IsFleetSeat, AreAdded, HonestIfSeatsAre}

parted : (n m : ℕ) → (n < m) ⊎ (m ≤ n)
parted n zero = inr (omega arith)
parted zero (suc m) = inl (omega arith)
parted (suc n) (suc m) =
    ⊎_elim (λ h. inl (omega arith)) (λ h. inr (omega arith)) (parted n m)

-- an element that passes a test is one of those that do
passes : {X : Type 0} (p : X → Bool) (xs : List X) (k : ℕ) (x : X) → get_elem? xs k ≡ some x
    → p x ≡ true → Contains (filter p xs) x
passes p [] k x e is = absurd (some-ne-none x (sym e))
passes {X} p (y ∷ xs) zero x e is =
    let same : y ≡ x = some-injective y x e in
    subst (λ (b : Bool). Contains (cond b (y ∷ filter p xs) (filter p xs)) x)
    (sym (ap p same ∙ is)) (0, omega arith, same)
passes {X} p (y ∷ xs) (suc k) x e is = by (p y) (passes p xs k x e is)
  where
    by : (b : Bool) → Contains (filter p xs) x
        → Contains (cond b (y ∷ filter p xs) (filter p xs)) x
    by true rest = Contains-append_right (y ∷ []) (filter p xs) x rest
    by false rest = rest

among : {X : Type 0} (front rest : List X) (x : X) → get_elem? (front ++ x ∷ rest) (length front) ≡ some x
among [] rest x = refl
among (y ∷ front) rest x = among front rest x

module _ {S : Type 0} (home : Home Opening) (seats : List (Place S Entry Opening))
    (history : List Entry) (all : AreAll home seats)
    (stand : All
    (λ seat. Stands seat_of history (number_of seat) (lines_seen seat) (mine seat)) seats)
    (no_other : (number : ℕ) → length home.terms.budgets ≤ number
    → of_seat seat_of number history ≡ []) where
  -- the seat of a number
  record SeatAt (number : ℕ) : Type 0 where
    seat : Place S Entry Opening
    among_them : Contains seats seat
    number_is : number_of seat ≡ number
    stands : Stands seat_of history (number_of seat) (lines_seen seat) (mine seat)

  seat_at : (number : ℕ) → number < length home.terms.budgets → SeatAt number
  seat_at number low =
      let there = Contains-elem (map number_of seats) number (all.all number low) in
      let from = map_from number_of seats there.0 number there.1 in
      let at = get_at seats there.0 from.0 from.0 from.1 in
      let in_them : Contains seats from.0 = (there.0, at.0, at.1) in
      record {
        seat = from.0;
        among_them = in_them;
        number_is = from.2;
        stands = All-contains
            (λ seat. Stands seat_of history (number_of seat) (lines_seen seat) (mine seat))
            seats from.0 stand in_them;
      }

  own_entry : (e : Entry) (k number : ℕ) → get_elem? history k ≡ some e → seat_of e ≡ number
      → Contains (of_seat seat_of number history) e
  own_entry e k number at is =
      passes (λ (x : Entry). seat_of x == number) history k e at (eq-eqb (seat_of e) number is)

  no_entry : (e : Entry) (k number : ℕ) → get_elem? history k ≡ some e → seat_of e ≡ number
      → length home.terms.budgets ≤ number → ⊥
  no_entry e k number at is high =
      let there = own_entry e k number at is in
      let none = ap length (no_other number high) in
      let inside = there.1 in absurd (omega arith)

  pub added_by : AreAdded seats history
  added_by = All-by_elem
      (λ e. (seat : Place S Entry Opening) × Contains seats seat
      × (number_of seat ≡ seat_of e) × Contains (mine seat) e) history
      (λ k e at. ⊎_elim
      (λ low. let s = seat_at (seat_of e) low in (
        s.seat,
        s.among_them,
        s.number_is,
        subst (λ l. Contains l e) s.stands.whole (own_entry e k (number_of s.seat) at (sym s.number_is)),
      ))
      (λ high. absurd (no_entry e k (seat_of e) at refl high))
      (parted (seat_of e) (length home.terms.budgets)))

  keeps_at : (opens : Opens) → All (IsFleetSeat home) seats
      → All (λ seat. KeepsHonest opens home.terms.basis (number_of seat) (lines_seen seat)) seats
      → (number : ℕ) → KeepsHonest opens home.terms.basis number history
  keeps_at opens theirs keeps number = ⊎_elim
      (λ low. let s = seat_at number low in
      subst (λ n. KeepsHonest opens home.terms.basis n history) s.number_is
      (honesty_stands opens home.terms.basis history (number_of s.seat) (lines_seen s.seat)
      (mine s.seat)
      s.stands (All-contains (IsFleetSeat home) seats s.seat theirs s.among_them).caller.own
      (All-contains (λ seat. KeepsHonest opens home.terms.basis (number_of seat) (lines_seen seat))
      seats s.seat keeps s.among_them)))
      (λ high front e rest is seat_is honest. absurd (no_entry e (length front) number
      (ap (λ l. get_elem? l (length front)) is ∙ among front rest e) seat_is high))
      (parted number (length home.terms.budgets))

  pub honest_by : IsLegal home.terms.basis history → HonestIfSeatsAre home seats history
  honest_by legal opens opening theirs keeps =
      honest_by_seats opens home.terms.basis history legal opening
      (λ number low. keeps_at opens theirs keeps number)
