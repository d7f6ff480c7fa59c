-- The steps of loops over options: one that returns false at the first element without a fact, one
-- that counts.
use Rattle.std.proofs.Common.{◌≡◌, ℕ, ◌+◌, ◌<◌, ◌≤◌, List, length, get_or, take, true, false}
use Rattle.std.proofs.Common.{IsTrue, ◌↔◌, refl, sym, ◌∙◌, subst, All, AllPairs, arith, Bool}
use Rattle.std.proofs.Common.{MatchBool}
use Rattle.std.specs.List.{AllWithin, HoldsAt}
use Rattle.std.proofs.lemmas.Iterator.Search.{true_from_All}
use Rattle.std.proofs.lemmas.Bool.{false≢true}
use Rattle.std.proofs.lemmas.List.{take_more, take_all, get_or-take, get_or_default, length-take-le}
use Rattle.std.proofs.lemmas.List.Elements.{All-more, All-from_all_within}
use Rattle.std.proofs.lemmas.List.Quantifiers.{all_pairs_push}

pub all_more : {X : Type 0} (P : X → Type 0) (xs : List X) (i : ℕ) (x : X) → i < length xs
    → x ≡ get_or xs i x → P x → All P (take i xs) → All P (take (i + 1) xs)
all_more P xs i x h is p all = All-more P xs i x h all (subst P is p)

pub all_stops : {X : Type 0} (P : X → Type 0) (xs : List X) (i : ℕ) (x : X) → i < length xs
    → x ≡ get_or xs i x → (P x → ⊥) → IsTrue false ↔ All P xs
all_stops P xs i x h is none =
    (λ e. absurd (false≢true e), λ all. absurd (none (subst P (sym is) (all i x h))))

pub all_ends : {X : Type 0} (P : X → Type 0) (xs : List X) (i : ℕ) → length xs ≤ i
    → All P (take i xs) → IsTrue true ↔ All P xs
all_ends P xs i h all = (λ e. subst (All P) (take_all i xs h) all, λ _. refl)

pub pairs_more : {X : Type 0} (R : X → X → Type 0) (xs : List X) (i : ℕ) (x : X) → i < length xs
    → x ≡ get_or xs i x → All (λ e. R e x) (take i xs) → AllPairs R (take i xs)
    → AllPairs R (take (i + 1) xs)
pairs_more R xs i x h is each pairs =
    subst (AllPairs R) (sym (take_more xs i x h))
    (all_pairs_push R (take i xs) (get_or xs i x) pairs
    (λ k d lt. subst (λ y. R (get_or (take i xs) k d) y) is (each k d lt)))

earlier : {X : Type 0} (R : X → X → Type 0) (xs : List X) (i : ℕ) (x : X) → i < length xs
    → x ≡ get_or xs i x → AllPairs R xs → All (λ e. R e x) (take i xs)
earlier R xs i x h is pairs k d lt =
    let below : k < i = omega (arith, length-take-le i xs (omega arith)) in
    subst (λ y. R y x) (sym (get_or-take i xs k d below))
    (subst (R (get_or xs k d)) (get_or_default xs i d x h ∙ sym is) (pairs k i d below h))

pub pairs_stop : {X : Type 0} (R : X → X → Type 0) (xs : List X) (i : ℕ) (x : X) → i < length xs
    → x ≡ get_or xs i x → (All (λ e. R e x) (take i xs) → ⊥) → IsTrue false ↔ AllPairs R xs
pairs_stop R xs i x h is none =
    (λ e. absurd (false≢true e), λ pairs. absurd (none (earlier R xs i x h is pairs)))

pub pairs_end : {X : Type 0} (R : X → X → Type 0) (xs : List X) (i : ℕ) → length xs ≤ i
    → AllPairs R (take i xs) → IsTrue true ↔ AllPairs R xs
pairs_end R xs i h pairs = (λ e. subst (AllPairs R) (take_all i xs h) pairs, λ _. refl)

-- what `all` answers, where its closure decides a fact
pub all_is : {X : Type 0} (P : X → Type 0) (r : Bool) (xs : List X)
    → MatchBool r (AllWithin P xs 0 (length xs))
    ((k : ℕ) × (k < length xs) × HoldsAt (λ x. P x → ⊥) xs k) → IsTrue r ↔ All P xs
all_is P true xs h = (λ _. All-from_all_within P xs h, λ _. refl)
all_is P false xs h = (
  λ e. absurd (false≢true e),
  true_from_All P (λ x. P x → ⊥) false xs (λ x p q. q p) h,
)
