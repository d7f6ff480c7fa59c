-- A seat takes or gives up a generation: what that changes on the board.
use Rattle.std.proofs.Common.{◌≡◌, ◌≢◌, ℕ, zero, suc, ◌<◌, ◌≤◌, ◌+◌, ◌^◌, ◌-◌, ◌==◌, true, false, cond, List, [], ◌∷◌, length, count_by, Option, None, Some, refl, sym, ap, subst, ◌∙◌, arith}
use Rattle.std.specs.Prelude.{IsTrue, ◌||◌, nat_lt, slice_set}
use Rattle.std.specs.List.{list_any, slice_get}
use Rattle.std.specs.Option.{option_map, IsSomeAnd}
use Rattle.std.proofs.lemmas.List.Sums.{sum_by-set, count_by-le-length}
use Rattle.std.proofs.lemmas.List.Folds.{list_any_at}
use Rattle.std.proofs.lemmas.Bool.{eq-eqb, ne_eqb}
use Rattle.kr_judge.specs.Boards.{GenerationState, changed_at, held_more, held_less, MayHold, IsHeld, is_live}
use Rattle.kr_opening.specs.declared.generation.Generation.{Generation}
use Rattle.kr_rollout.specs.States.{number_at, is_number, judged_generation, judged_generations}

-- how a change of the seats shows at one generation, and at no other
pub record Moves (current held now : List (Option ℕ)) (number : ℕ) (change : GenerationState
    → GenerationState) : Type 0 where
  pub others : (n : ℕ) → n ≢ number → count_by (is_number n) held ≡ count_by (is_number n) now
  pub here : (g : Generation) → change (judged_generation current held number g)
      ≡ judged_generation current now number g

others_same : (current held now : List (Option ℕ)) (number : ℕ) (change : GenerationState
    → GenerationState) (n : ℕ) (g : Generation) → Moves current held now number change
    → n ≢ number → judged_generation current held n g ≡ judged_generation current now n g
others_same current held now number change n g m d =
    ap (λ h. record {
      replica = g.replica;
      rows = g.published.rows;
      current =
          list_any (is_number n) current;
      holders = h;
    }) (m.others n d)

beyond : (current held now : List (Option ℕ)) (number : ℕ) (change : GenerationState
    → GenerationState) (k : ℕ) (gs : List Generation) → Moves current held now number change
    → number < k → judged_generations current held k gs ≡ judged_generations current now k gs
beyond current held now number change k [] m l = refl
beyond current held now number change k (g ∷ gs) m l =
    let head = others_same current held now number change k g m (λ e. omega (arith, e)) in
    let tail = beyond current held now number change (k + 1) gs m (omega arith) in
    (λ i. head i ∷ tail i)

pub moved : (current held now : List (Option ℕ)) (number : ℕ) (change : GenerationState
    → GenerationState) (k i : ℕ) (gs : List Generation) → Moves current held now number change
    → k + i ≡ number → i < length gs → changed_at change i (judged_generations current held k gs)
    ≡ judged_generations current now k gs
moved current held now number change k i [] m e l = absurd (omega arith)
moved current held now number change k zero (g ∷ gs) m e l =
    let here : k ≡ number = omega (arith, e) in
    let head = subst (λ n. change (judged_generation current held n g) ≡ judged_generation current now n g) (sym here)
    (m.here g) in
    let tail = beyond current held now number change (k + 1) gs m (omega (arith, here)) in
    (λ i. head i ∷ tail i)
moved current held now number change k (suc i) (g ∷ gs) m e l =
    let head = others_same current held now number change k g m (λ d. omega (arith, d, e)) in
    let tail = moved current held now number change (k + 1) i gs m (omega (arith, e))
    (omega arith) in
    (λ i. head i ∷ tail i)

-- ---- counting

-- a judged generation with its count of holders
with_holders : (current : List (Option ℕ)) (number : ℕ) (g : Generation) {a b : ℕ} → a ≡ b
    → ◌≡◌ {A = GenerationState} (record {
      replica = g.replica;
      rows = g.published.rows;
      current = list_any (is_number number) current;
      holders = a;
    }) (record {
      replica = g.replica;
      rows = g.published.rows;
      current = list_any (is_number number) current;
      holders = b;
    })
with_holders current number g e = ap (λ h. record {
  replica = g.replica;
  rows = g.published.rows;
  current = list_any (is_number number) current;
  holders = h;
}) e

counted : (n : ℕ) (held : List (Option ℕ)) (seat : ℕ) (before now : Option ℕ) → seat < length held
    → number_at held seat ≡ before
    → count_by (is_number n) (slice_set held seat now) + cond (is_number n before) 1 0
    ≡ count_by (is_number n) held + cond (is_number n now) 1 0
counted n held seat before now l e =
    ap (λ b. count_by (is_number n) (slice_set held seat now) + cond (is_number n b) 1 0) (sym e)
    ∙ sum_by-set (λ x. cond (is_number n x) 1 0) held seat now None l

itself : (n : ℕ) → (n == n) ≡ true
itself n = eq-eqb n n refl

other : (m n : ℕ) → n ≢ m → (m == n) ≡ false
other m n d = ne_eqb m n (λ e. d (sym e))

-- ---- taking

pub takes : (current held : List (Option ℕ)) (seat number : ℕ) → seat < length held
    → number_at held seat ≡ None
    → Moves current held (slice_set held seat (Some number)) number held_more
takes current held seat number l e = record {
  others = λ n d. (let c = counted n held seat None (Some number) l e in let f =
      ap {B = ℕ} (λ b. cond b 1 0) (other number n d) in omega (arith, c, f));
  here = λ g. (let c = counted number held seat None (Some number) l e in let f =
      ap {B = ℕ} (λ b. cond b 1 0) (itself number) in
      let h : count_by (is_number number) held + 1
      ≡ count_by (is_number number) (slice_set held seat (Some number)) = omega (arith, c, f) in
      with_holders current number g h);
}

-- ---- giving up

pub gives : (current held : List (Option ℕ)) (seat number : ℕ) → seat < length held
    → number_at held seat ≡ Some number
    → Moves current held (slice_set held seat None) number held_less
gives current held seat number l e = record {
  others = λ n d. (let c = counted n held seat (Some number) None l e in let f =
      ap {B = ℕ} (λ b. cond b 1 0) (other number n d) in omega (arith, c, f));
  here = λ g. (let c = counted number held seat (Some number) None l e in let f =
      ap {B = ℕ} (λ b. cond b 1 0) (itself number) in
      let h : count_by (is_number number) held - 1
      ≡ count_by (is_number number) (slice_set held seat None) = omega (arith, c, f) in
      with_holders current number g h);
}

-- ---- what the board requires

there : {X : Type 0} (xs : List X) (i : ℕ) → i < length xs → (x : X) × (slice_get xs i ≡ Some x)
there [] i l = absurd (omega arith)
there (x ∷ xs) zero l = (x, refl)
there (x ∷ xs) (suc i) l = there xs i (omega arith)

got : (current held : List (Option ℕ)) (k i : ℕ) (gs : List Generation)
    → slice_get (judged_generations current held k gs) i
    ≡ option_map (judged_generation current held (k + i)) (slice_get gs i)
got current held k i [] = refl
got current held k zero (g ∷ gs) = ap (λ n. Some (judged_generation current held n g)) (omega arith)
got current held k (suc i) (g ∷ gs) = got current held (k + 1) i gs
    ∙ ap (λ n. option_map (judged_generation current held n) (slice_get gs i)) (omega arith)

got_one : (current held : List (Option ℕ)) (number : ℕ) (gs : List Generation) → number < length gs
    → (g : Generation) × (slice_get (judged_generations current held 0 gs) number
    ≡ Some (judged_generation current held number g))
got_one current held number gs l =
    let t = there gs number l in (
      t.0,
      got current held 0 number gs ∙ ap (option_map (judged_generation current held (0 + number))) t.1
          ∙ ap (λ n. Some (judged_generation current held n t.0)) (omega arith),
    )

pub may_hold : (current held : List (Option ℕ)) (replica number : ℕ) (gs : List Generation)
    → number < length gs → replica < length current
    → number_at current replica ≡ Some number → length held ≤ 64
    → MayHold number (judged_generations current held 0 gs)
may_hold current held replica number gs l r e few =
    let g = got_one current held number gs l in
    let live : list_any (is_number number) current ≡ true =
    list_any_at (is_number number) current replica None r (ap (is_number number) e
    ∙ itself number) in
    subst (λ o. IsSomeAnd o (λ t. IsTrue (is_live t) × (t.holders + 1 < 2 ^ 32))) (sym g.1) (
      ap (λ b. b || nat_lt 0 (count_by (is_number number) held)) live,
      omega
          (arith, count_by-le-length (is_number number) held),
    )

pub may_release : (current held : List (Option ℕ)) (seat number : ℕ) (gs : List Generation)
    → number < length gs → seat < length held
    → number_at held seat ≡ Some number → IsHeld number (judged_generations current held 0 gs)
may_release current held seat number gs l s e =
    let g = got_one current held number gs l in
    let c = counted number held seat (Some number) None s e in let f =
    ap {B = ℕ} (λ b. cond b 1 0) (itself number) in
    subst (λ o. IsSomeAnd o (λ t. 0 < t.holders)) (sym g.1) (omega (arith, c, f))
