-- Rows of seats: what callers of `close` need of them.
use Rattle.std.proofs.Common.{◌≡◌, ℕ, zero, suc, ◌+◌, ◌-◌, ◌<◌, List, [], ◌∷◌, ◌++◌, length, map}
use Rattle.std.proofs.Common.{get_or, slice_index, slice_index_or, All, Contains, sym}
use Rattle.std.proofs.Common.{refl, ap, ◌∙◌, subst, inl, inr, ⊎_elim, arith, add-one, Option, Some}
use mathlib.Core.Option.{some, some-injective, some-ne-none}
use mathlib.Core.List.{map-append, reverse-cons}
use lib.ListN.{get_elem?}
use Rattle.std.specs.List.{range_with_len}
use Rattle.std.proofs.lemmas.List.FromFn.{length-range_with_len, get_or-range_with_len}
use Rattle.std.proofs.lemmas.List.Elements.{All-append}
use Rattle.atomic_table.specs.declared.shared.Seat.{Seat}
use Rattle.atomic_table.proofs.Lists.{at_longer, at_last, at_snoc, at_map}
use Rattle.kr_turn.specs.declared.view.View.{View}
use Rattle.kr_turn.specs.declared.seat.Place.{Place}
use Rattle.kr_turn.specs.declared.view.ViewPart.{ViewPart}
use Rattle.atomic_table.specs.Table.{Me}
use Rattle.kr_turn.specs.inner.Endings.{Covers, IsEnd, IsGathered, part_in}
use Rattle.kr_turn.specs.Keys.{Home}
use Rattle.kr_base.specs.Lines.{Stands}
use Rattle.kr_turn.specs.Seats.{number_of, lines_seen, mine, IsSeatOf, IsFresh, AreFresh, AreAll}

module _ {A : Type 0} where
  pub All-one : (P : A → Type 0) (x : A) → P x → All P (x ∷ [])
  All-one P x h zero d lt = h
  All-one P x h (suc k) d lt = absurd (omega arith)

  pub All-push : (P : A → Type 0) (xs : List A) (x : A) → All P xs → P x → All P (xs ++ x ∷ [])
  All-push P xs x all h = All-append P xs (x ∷ []) all (All-one P x h)

  -- the element at an index
  pub elem_at : (xs : List A) (k : ℕ) (d : A) → k < length xs
      → get_elem? xs k ≡ some (get_or xs k d)
  elem_at [] k d lt = absurd (omega arith)
  elem_at (x ∷ xs) zero d lt = refl
  elem_at (x ∷ xs) (suc k) d lt = elem_at xs k d (omega arith)

  pub get_at : (xs : List A) (k : ℕ) (d x : A) → get_elem? xs k ≡ some x
      → (k < length xs) × (get_or xs k d ≡ x)
  get_at [] k d x e = absurd (some-ne-none x (sym e))
  get_at (y ∷ xs) zero d x e = (omega arith, some-injective y x e)
  get_at (y ∷ xs) (suc k) d x e = let h = get_at xs k d x e in (omega (arith, h.0), h.1)

  pub All-by_elem : (P : A → Type 0) (xs : List A)
      → ((k : ℕ) (x : A) → get_elem? xs k ≡ some x → P x) → All P xs
  All-by_elem P xs h k d lt = h k (get_or xs k d) (elem_at xs k d lt)

  pub All-elem : (P : A → Type 0) (xs : List A) → All P xs → (k : ℕ) (x : A)
      → get_elem? xs k ≡ some x → P x
  All-elem P xs all k x e = let h = get_at xs k x x e in subst P h.1 (all k x h.0)

  pub All-weaker : (P Q : A → Type 0) → ((x : A) → P x → Q x) → (xs : List A) → All P xs → All Q xs
  All-weaker P Q f xs all k d lt = f (get_or xs k d) (all k d lt)

  pub All-front : (P : A → Type 0) (xs : List A) (x : A) → All P (xs ++ x ∷ []) → All P xs
  All-front P xs x all = All-by_elem P xs
      (λ k y e. All-elem P (xs ++ x ∷ []) all k y (at_longer xs (x ∷ []) k y e))

  pub All-last : (P : A → Type 0) (xs : List A) (x : A) → All P (xs ++ x ∷ []) → P x
  All-last P xs x all = All-elem P (xs ++ x ∷ []) all (length xs) x (at_last xs x (length xs) refl)

  -- what a map has at an index comes from there
  pub map_from : {B : Type 0} (f : A → B) (xs : List A) (k : ℕ) (b : B)
      → get_elem? (map f xs) k ≡ some b → (x : A) × (get_elem? xs k ≡ some x) × (f x ≡ b)
  map_from f [] k b e = absurd (some-ne-none b (sym e))
  map_from f (x ∷ xs) zero b e = (x, refl, some-injective (f x) b e)
  map_from f (x ∷ xs) (suc k) b e = map_from f xs k b e

  -- an element of a list
  pub Contains-elem : (xs : List A) (x : A) → Contains xs x → (k : ℕ) × (get_elem? xs k ≡ some x)
  Contains-elem xs x h = (h.0, elem_at xs h.0 x h.1 ∙ ap some h.2)

range_more : (a n : ℕ) → range_with_len a (n + 1) ≡ range_with_len a n ++ (a + n) ∷ []
range_more a zero = ap (λ (k : ℕ). k ∷ []) (omega arith)
range_more a (suc n) = let next = range_more (a + 1) n in
    let same : (a + 1) + n ≡ a + suc n = omega arith in
    ap (λ (k : ℕ). range_with_len a k) (add-one (suc n))
    ∙ ap (λ (l : List ℕ). a ∷ l)
    (ap (λ (k : ℕ). range_with_len (a + 1) k) (sym (add-one n))
    ∙ (next ∙ ap (λ (k : ℕ). range_with_len (a + 1) n ++ k ∷ []) same))

range_has : (count number : ℕ) → number < count → Contains (range_with_len 0 count) number
range_has count number low = (
  number,
  omega (arith, length-range_with_len 0 count),
  (let e = get_or-range_with_len 0 count number number low in omega (arith, e)),
)

module _ {S L G : Type 0} (home : Home G) where
  -- a seat is fresh where its token is
  pub fresh_by : (seat : Place S L G) (token : Seat (Option S) (View L G)) (number left : ℕ)
      → (seat.token ≡ token) × (seat.number ≡ number) × (seat.left ≡ left)
      → token.table_id ≡ home.table → token.me.0.terms ≡ Some home.terms → token.me.0.seen ≡ []
      → token.me.0.mine ≡ [] → left ≡ slice_index home.terms.budgets number → IsFresh home seat
  fresh_by seat token number left is table terms none_seen none_mine budget = record {
    its = record {
      table = ap (λ (t : Seat (Option S) (View L G)). t.table_id) is.0 ∙ table;
      terms =
          ap (λ (t : Seat (Option S) (View L G)). t.me.0.terms) is.0 ∙ terms;
    };
    left = is.2 ∙ (budget ∙ ap (slice_index home.terms.budgets) (sym is.1));
    none_seen = ap (λ (t : Seat (Option S) (View L G)). t.me.0.seen) is.0 ∙ none_seen;
    none_mine = ap (λ (t : Seat (Option S) (View L G)). t.me.0.mine) is.0 ∙ none_mine;
  }

  pub none_fresh : (seats : List (Place S L G)) → seats ≡ [] → AreFresh home 0 seats
  none_fresh seats e = record {
    numbers = ap (map number_of) e;
    each =
        subst (λ (l : List (Place S L G)). All (IsFresh home) l) (sym e)
        (λ k d lt. absurd (omega arith));
  }

  pub more_fresh : (count : ℕ) (seats : List (Place S L G)) (seat : Place S L G)
      (after : List (Place S L G)) → AreFresh home count seats → IsFresh home seat
      → number_of seat ≡ count → after ≡ seats ++ seat ∷ [] → AreFresh home (count + 1) after
  more_fresh count seats seat after fresh h number e = record {
    numbers = ap (map number_of) e
        ∙ (map-append number_of seats (seat ∷ [])
        ∙ (ap (λ (l : List ℕ). l ++ seat.number ∷ []) fresh.numbers
        ∙ (ap (λ (k : ℕ). range_with_len 0 count ++ k ∷ [])
        (let same : seat.number ≡ 0 + count = omega (arith, number) in same)
        ∙ sym (range_more 0 count))));
    each = subst (λ (l : List (Place S L G)). All (IsFresh home) l) (sym e)
        (All-push (IsFresh home) seats seat fresh.each h);
  }

  -- each number below the number of budgets is one of theirs
  pub occurs_fresh : (count : ℕ) (seats : List (Place S L G)) → AreFresh home count seats
      → (number : ℕ) → number < count → Contains (map number_of seats) number
  occurs_fresh count seats fresh number low =
      subst (λ (l : List ℕ). Contains l number) (sym fresh.numbers) (range_has count number low)

  -- so they are all seats of the turn
  pub all_fresh : (count : ℕ) (seats : List (Place S L G)) → count ≡ length home.terms.budgets
      → AreFresh home count seats → AreAll home seats
  all_fresh count seats e fresh =
      record {
        its = All-weaker (IsFresh home) (IsSeatOf home) (λ seat h. h.its) seats fresh.each;
        all = λ number low. occurs_fresh count seats fresh number (omega arith);
      }

  -- all seats of the turn, where the numbers are those of a row of all
  pub all_again : (seats again : List (Place S L G)) → AreAll home seats → All (IsSeatOf home) again
      → map number_of again ≡ map number_of seats → AreAll home again
  all_again seats again are its same =
      record {
        its = its;
        all = λ number low.
            subst (λ (l : List ℕ). Contains l number) (sym same) (are.all number low);
      }

  -- the same, where each seat kept its number
  pub same_numbers : (seats again : List (Place S L G)) → length again ≡ length seats
      → ((k : ℕ) (d : Place S L G) → k < length seats
      → number_of (slice_index_or again k d) ≡ number_of (slice_index_or seats k d))
      → map number_of again ≡ map number_of seats
  same_numbers [] [] long each = refl
  same_numbers (x ∷ xs) (y ∷ ys) long each =
      λ i. each zero x (omega arith) i
      ∷ same_numbers xs ys (omega arith) (λ k d lt. each (suc k) d (omega arith)) i
  same_numbers other another long each = absurd (omega arith)

module _ {S L G : Type 0} (home : Home G) (first : Place S L G) (rest all : List (Place S L G))
    (m : Me (Option S) (View L G)) (split : all ≡ rest ++ first ∷ [])
    (gathered : IsGathered first rest [] m) where
  part_at : (k : ℕ) (seat : Place S L G) → get_elem? rest k ≡ some seat
      → get_elem? m.0.ended k ≡ some (part_in seat)
  part_at k seat e = ap (λ (l : List (ViewPart L)). get_elem? l k) gathered.ended
      ∙ at_map part_in rest k seat e

  -- the first seat and those that ended in it are all seats of the turn
  pub covers : AreAll home all → Covers home.terms m.0
  covers are number low =
      let h = Contains-elem (map number_of all) number (are.all number low) in
      let from = map_from number_of all h.0 number h.1 in
      let seat : Place S L G = from.0 in
      ⊎_elim (λ e. inr (
        h.0,
        part_in seat,
        part_at h.0 seat e,
        ap (λ (t : Seat (Option S) (View L G)). t.me.0.number) seat.rests ∙ from.2,
      ))
      (λ e. inl (gathered.number ∙
      (ap (λ (t : Seat (Option S) (View L G)). t.me.0.number) first.rests
      ∙ (ap (λ (z : Place S L G). z.number) e ∙ from.2))))
      (at_snoc rest first seat h.0
      (ap (λ (l : List (Place S L G)). get_elem? l h.0) (sym split) ∙ from.1))

  -- so each seat's view stands in the lines of the state at the end
  pub all_stand : (lines : S → List L) (basis : S → G) (room : S → ℕ) (seat_of : L → ℕ) (state : S)
      → IsEnd lines basis room seat_of home.terms m.0 state
      → All (λ seat. Stands seat_of (lines state) (number_of seat) (lines_seen seat)
      (mine seat)) all
  all_stand lines basis room seat_of state end =
      All-by_elem (λ seat. Stands seat_of (lines state) (number_of seat) (lines_seen seat)
      (mine seat))
      all (λ k seat e.
      ⊎_elim
      (λ h. subst (λ (n : ℕ). Stands seat_of (lines state) n (lines_seen seat) (mine seat))
      (ap (λ (t : Seat (Option S) (View L G)). t.me.0.number) seat.rests)
      (end.ended k (part_in seat) (part_at k seat h)))
      (λ h. subst (λ (z : Place S L G).
      Stands seat_of (lines state) (number_of z) (lines_seen z) (mine z)) h
      (subst (λ (x : ℕ × List L × List L). Stands seat_of (lines state) x.0 x.1 x.2)
      (λ i. (
        (gathered.number ∙ ap (λ (t : Seat (Option S) (View L G)). t.me.0.number)
            first.rests) i,
        gathered.seen i,
        gathered.mine i,
      )) end.itself))
      (at_snoc rest first seat k (ap (λ (l : List (Place S L G)). get_elem? l k) (sym split) ∙ e)))
