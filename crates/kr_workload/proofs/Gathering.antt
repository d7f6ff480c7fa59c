-- What was got, listed in order.
use Rattle.std.proofs.Common.{ℕ, ◌+◌, ◌<◌, List, [], ◌∷◌, map, length, subst, arith}
use Rattle.std.specs.List.Sorted.{IsPermutation, IsSorted}
use Rattle.std.specs.declared.cmp.Ordering.{Ordering}
use Rattle.std.proofs.lemmas.List.{get_or-map, length-map}
use Rattle.std.proofs.lemmas.List.Sorted.{IsPermutation-map}
use Rattle.kr_workload.specs.Summaries.{object_cmp}
use Rattle.kr_workload.specs.inner.Listing.{LentPair, lent_pair, lent_pairs}

-- a list that is sorted by what its items are seen as
sorted_map : {A B : Type 0} (f : A → B) (cmp : B → B → Ordering) (xs : List A)
    → IsSorted (λ x y. cmp (f x) (f y)) xs → IsSorted cmp (map f xs)
sorted_map f cmp [] sorted = λ k d low lt. absurd (below_none k lt)
  where
    below_none : (k : ℕ) → k + 1 < 0 → ⊥
    below_none k lt = omega (arith, lt)
sorted_map f cmp (x ∷ xs) sorted = λ k d low lt.
    let size : k + 1 < length (x ∷ xs) =
    subst (λ n. k + 1 < n) (length-map (x ∷ xs) f) lt in
    let here : k < length (x ∷ xs) = omega (arith, size) in
    rw (get_or-map f (x ∷ xs) (k + 1) x d size, get_or-map f (x ∷ xs) k x d here)
    (sorted k x low size)

-- pairs that are lent, by what they are seen as
pub same_objects : (all listing : List LentPair) → IsPermutation all listing
    → IsPermutation (lent_pairs all) (lent_pairs listing)
same_objects all listing same = IsPermutation-map lent_pair all listing same

pub sorted_objects : (listing : List LentPair)
    → IsSorted (λ one other. object_cmp (lent_pair one) (lent_pair other)) listing
    → IsSorted object_cmp (lent_pairs listing)
sorted_objects listing sorted = sorted_map lent_pair object_cmp listing sorted
