-- Lines of seats, beginnings of histories, and what is left over all seats.
use Rattle.std.proofs.Common.{◌≡◌, ℕ, zero, suc, ◌+◌, ◌<◌, ◌≢◌, cond, eqb, List, [], ◌∷◌, ◌++◌}
use Rattle.std.proofs.Common.{length, drop, set, sym, refl, ap, ◌∙◌, arith, append_assoc}
use Rattle.std.proofs.Common.{append-nil, eq-eqb, ne_eqb, length-append, Option}
use mathlib.Core.Option.{some, some-injective, some-ne-none}
use mathlib.Core.List.{IsPrefix}
use lib.ListN.{get_elem?}
use Rattle.std.proofs.lemmas.List.Elements.{filter-append}
use Rattle.std.proofs.Math.Seq.{drop-append_seam}
use Rattle.atomic_table.specs.Table.{State}
use Rattle.kr_turn.specs.declared.view.View.{View}
use Rattle.kr_base.specs.Lines.{of_seat}
use Rattle.kr_turn.specs.inner.Rule.{lefts}

-- the table of a lock
abbrev pub Table : Type 0 → Type 0 → Type 0 → Type 0
Table S L G = State (Option S) (View L G)

pub in_range : {A : Type 0} (l : List A) (i : ℕ) (a : A) → get_elem? l i ≡ some a → i < length l
in_range [] i a e = absurd (some-ne-none a (sym e))
in_range (x ∷ xs) zero a e = omega arith
in_range (x ∷ xs) (suc i) a e = let more = in_range xs i a e in omega arith

module _ {L : Type 0} where
  pub prefix_more : (xs ys : List L) (x : L) → IsPrefix xs ys → IsPrefix xs (ys ++ x ∷ [])
  prefix_more xs ys x pre = (
    pre.0 ++ x ∷ [],
    sym (append_assoc xs pre.0 (x ∷ []))
        ∙ ap (λ (l : List L). l ++ x ∷ []) pre.1,
  )

  pub prefix_whole : (xs ys : List L) → xs ≡ ys → IsPrefix xs ys
  prefix_whole xs ys same = ([], append-nil xs ∙ same)

  pub drop_own : (log : List L) (x : L) → drop (length log) (log ++ x ∷ []) ≡ x ∷ []
  drop_own log x = drop-append_seam log (x ∷ [])

  append_nothing : (xs ys zs : List L) → zs ≡ xs → xs ++ ys ≡ zs → ys ≡ []
  append_nothing xs [] zs e f = refl
  append_nothing xs (y ∷ ys) zs e f = let long = ap length f ∙ ap length e in
      absurd (omega (arith, length-append xs (y ∷ ys), long))

module _ {L : Type 0} (seat_of : L → ℕ) where
  pub of_seat_own : (seat : ℕ) (log : List L) (x : L) → seat_of x ≡ seat
      → of_seat seat_of seat (log ++ x ∷ []) ≡ of_seat seat_of seat log ++ x ∷ []
  of_seat_own seat log x own =
      filter-append (λ (y : L). eqb (seat_of y) seat) log (x ∷ [])
      ∙ ap (λ b. of_seat seat_of seat log ++ cond b (x ∷ []) []) (eq-eqb (seat_of x) seat own)

  pub of_seat_other : (seat : ℕ) (log : List L) (x : L) → seat_of x ≢ seat
      → of_seat seat_of seat (log ++ x ∷ []) ≡ of_seat seat_of seat log
  of_seat_other seat log x other = filter-append (λ (y : L). eqb (seat_of y) seat) log (x ∷ [])
      ∙ (ap (λ b. of_seat seat_of seat log ++ cond b (x ∷ []) []) (ne_eqb (seat_of x) seat other)
      ∙ append-nil (of_seat seat_of seat log))

  -- what a seat hadn't seen has none of its lines, where it had seen all of them
  pub none_between : (seat : ℕ) (seen between log mine : List L) → seen ++ between ≡ log
      → of_seat seat_of seat log ≡ mine → of_seat seat_of seat seen ≡ mine
      → of_seat seat_of seat between ≡ []
  none_between seat seen between log mine split whole own =
      append_nothing (of_seat seat_of seat seen) (of_seat seat_of seat between)
      (of_seat seat_of seat log) (whole ∙ sym own)
      (sym (filter-append (λ (y : L). eqb (seat_of y) seat) seen between)
      ∙ ap (of_seat seat_of seat) split)

module _ {L G : Type 0} where
  pub lefts_set : (vs : List (View L G)) (j : ℕ) (v w : View L G) → get_elem? vs j ≡ some v
      → lefts (set vs j w) + v.left ≡ lefts vs + w.left
  lefts_set [] j v w e = absurd (some-ne-none v (sym e))
  lefts_set (x ∷ xs) zero v w e = let same : x.left ≡ v.left =
      ap (λ (z : View L G). z.left) (some-injective x v e) in omega arith
  lefts_set (x ∷ xs) (suc j) v w e = let more = lefts_set xs j v w e in omega arith

  pub lefts_more : (vs : List (View L G)) (w : View L G) → lefts (vs ++ w ∷ []) ≡ lefts vs + w.left
  lefts_more [] w = omega arith
  lefts_more (x ∷ xs) w = let more = lefts_more xs w in omega arith

-- a function with the value a at k
abbrev pub put : (ℕ → ℕ) → ℕ → ℕ → ℕ → ℕ
put f k a n = cond (eqb n k) a (f n)

pub put_here : (f : ℕ → ℕ) (k a n : ℕ) → n ≡ k → put f k a n ≡ a
put_here f k a n e = ap (λ b. cond b a (f n)) (eq-eqb n k e)

pub put_else : (f : ℕ → ℕ) (k a n : ℕ) → n ≢ k → put f k a n ≡ f n
put_else f k a n e = ap (λ b. cond b a (f n)) (ne_eqb n k e)
