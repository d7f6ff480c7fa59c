-- What was got has one listing in order, so one digest; and a whole load has one summary.
use Rattle.std.specs.Prelude.{Contains}
use Rattle.std.specs.Cmp.{IsTotalOrder}
use Rattle.std.specs.List.{flat_map}
use Rattle.std.specs.List.Sorted.{IsPermutation, IsSorted}
use Rattle.std.specs.Ordering.{is_eq, is_lt, ordering_reverse}
use Rattle.std.specs.declared.cmp.Ordering.{Ordering}
use Rattle.std.specs.declared.cmp.Ordering.TheVariants.{Less, Equal, Greater}
use Rattle.std.proofs.Common.{◌≡◌, ℕ, suc, ◌*◌, ◌<◌, ◌≤◌, true, false, cond, List, [], ◌∷◌, length, get_or, sum_by, refl, sym, ap, subst, ◌∙◌, arith}
use Rattle.std.proofs.lemmas.Bool.{false≢true}
use Rattle.std.proofs.lemmas.Cmp.{nat_list_cmp_total, on_total, then_total, tied_itself}
use Rattle.std.proofs.lemmas.List.Sorted.{IsPermutation-sym, IsPermutation-trans, ranks_by, sorted_far, sum_by-IsPermutation}
use Rattle.std.proofs.lemmas.List.Sums.{sum_by-cons}
use Rattle.std.proofs.lemmas.Map.Lookups.{CmpEqualImpliesEq, exact_bytes, exact_pairs}
use Rattle.sha2.specs.Sha256.{sha256}
use Rattle.kr_workload.specs.FullLoads.{FullIsOne, all_objects}
use Rattle.kr_workload.specs.Summaries.{OneDigest, object_cmp, got_lines, summary_text}

-- ---- two lists in order that have the same sums

module _ {X : Type 0} {R : X → X → Ordering} (o : IsTotalOrder R) (exact : CmpEqualImpliesEq R)
  where
    -- no element is less than one before it
    abbrev Rises : List X → Type 0
    Rises xs = (i j : ℕ) (d : X) → i ≤ j → j < length xs
        → is_lt (R (get_or xs j d) (get_or xs i d)) ≡ false

    abbrev SameSums : List X → List X → Type 0
    SameSums xs ys = (f : X → ℕ) → sum_by f ys ≡ sum_by f xs

    tail_rises : (x : X) (xs : List X) → Rises (x ∷ xs) → Rises xs
    tail_rises x xs r = λ i j d up below.
        r (suc i) (suc j) d (omega (arith, up)) (omega (arith, below))

    -- whether it is this element
    abbrev is_it : X → X → ℕ
    is_it y x = cond (is_eq (R x y)) 1 0

    -- an element that adds to a sum is there
    found : (y : X) (xs : List X) → 0 < sum_by (is_it y) xs → Contains xs y
    found y [] some = absurd (omega (arith, some))
    found y (x ∷ xs) some = by (R x y) refl (λ more. found y xs more)
      where
        by : (r : Ordering) → R x y ≡ r → (0 < sum_by (is_it y) xs → Contains xs y)
            → Contains (x ∷ xs) y
        by Equal is again = (0, omega arith, exact x y is)
        by Less is again =
            let none : is_it y x ≡ 0 = ap (λ r. cond (is_eq r) 1 0) is in
            let c = again (omega (arith, some, none, sum_by-cons (is_it y) x xs)) in
            (suc c.0, (let l = c.1 in omega (arith, l)), c.2)
        by Greater is again =
            let none : is_it y x ≡ 0 = ap (λ r. cond (is_eq r) 1 0) is in
            let c = again (omega (arith, some, none, sum_by-cons (is_it y) x xs)) in
            (suc c.0, (let l = c.1 in omega (arith, l)), c.2)

    there : (y : X) (ys xs : List X) → SameSums xs (y ∷ ys) → Contains xs y
    there y ys xs same =
        let own : is_it y y ≡ 1 = ap (λ r. cond (is_eq r) 1 0) (tied_itself o y) in
        found y xs (omega (arith, own, same (is_it y), sum_by-cons (is_it y) y ys))

    -- it isn't less than the first
    first_least : (x : X) (xs : List X) (y : X) → Rises (x ∷ xs) → Contains (x ∷ xs) y
        → is_lt (R y x) ≡ false
    first_least x xs y rises (k, below, is) =
        subst (λ z. is_lt (R z x) ≡ false) is (rises 0 k y (omega arith) below)

    neither_less : (x y : X) → is_lt (R x y) ≡ false → is_lt (R y x) ≡ false → x ≡ y
    neither_less x y a b = by (R x y) refl
      where
        by : (r : Ordering) → R x y ≡ r → x ≡ y
        by Equal is = exact x y is
        by Less is = absurd (false≢true (sym a ∙ ap is_lt is))
        by Greater is =
            absurd (false≢true (sym b ∙ ap is_lt (o.antisymm y x ∙ ap ordering_reverse is)))

    one_list : (xs ys : List X) → Rises xs → Rises ys → SameSums xs ys → xs ≡ ys
    one_list [] [] rises also same = refl
    one_list [] (y ∷ ys) rises also same =
        absurd (omega (arith, same (λ z. 1), sum_by-cons (λ (z : X). 1) y ys))
    one_list (x ∷ xs) [] rises also same =
        absurd (omega (arith, same (λ z. 1), sum_by-cons (λ (z : X). 1) x xs))
    one_list (x ∷ xs) (y ∷ ys) rises also same =
        let first : x ≡ y = neither_less x y
        (first_least y ys x also (there x xs (y ∷ ys) (λ f. sym (same f))))
        (first_least x xs y rises (there y ys (x ∷ xs) same)) in
        let rest = one_list xs ys (tail_rises x xs rises) (tail_rises y ys also)
        (λ f. omega (arith, same f, sum_by-cons f x xs, sum_by-cons f y ys, ap f first)) in
        λ i. first i ∷ rest i

    one_order : (all xs ys : List X) → IsPermutation all xs → IsPermutation all ys
        → IsSorted R xs → IsSorted R ys → xs ≡ ys
    one_order all xs ys p q s t =
        let ranks = ranks_by o (λ (x : X). x) in one_list xs ys
        (λ i j d up below. sorted_far (λ x y. is_lt (R x y)) ranks xs s i j d up below)
        (λ i j d up below. sorted_far (λ x y. is_lt (R x y)) ranks ys t i j d up below)
        (λ f. sum_by-IsPermutation f xs ys
        (IsPermutation-trans xs all ys (IsPermutation-sym all xs p) q))

-- ---- objects

abbrev ToldObject : Type 0
ToldObject = List ℕ × List ℕ

object_total : IsTotalOrder object_cmp
object_total = then_total (on_total (λ (x : ToldObject). x.0) nat_list_cmp_total)
    (on_total (λ (x : ToldObject). x.1) nat_list_cmp_total)

object_exact : CmpEqualImpliesEq object_cmp
object_exact = exact_pairs _ _ exact_bytes exact_bytes

pub one_digest : OneDigest
one_digest objects one other a b = a.digest_is
    ∙ ap (λ l. sha256 (flat_map got_lines l)) (one_order object_total object_exact objects
    a.listing b.listing a.same b.same a.sorted b.sorted)
    ∙ sym b.digest_is

pub full_is_one : FullIsOne
full_is_one seed size one other a b = a.2
    ∙ ap (summary_text seed size (4 * size) (4 * size))
    (one_digest (all_objects seed size) a.0 b.0 a.1 b.1) ∙ sym b.2
