-- The order of classes, and what sorting and removing repeats leave.
use Rattle.std.proofs.Common.{◌≡◌, Bool, true, List, refl, sym, ap, subst, ◌↔◌, Contains}
use Rattle.std.specs.List.{dedup}
use Rattle.std.specs.List.Sorted.{IsStrictlySortedBy, IsSorted, IsPermutation}
use Rattle.std.specs.Ordering.{eq_by_cmp}
use Rattle.std.specs.Cmp.{IsTotalOrder, IsEquivalence}
use Rattle.std.specs.declared.cmp.Ordering.{Ordering}
use Rattle.std.proofs.lemmas.List.Kept.{IsStrictlySortedBy-dedup, Contains-dedup}
use Rattle.std.proofs.lemmas.List.Kept.{Contains-from_dedup}
use Rattle.std.proofs.lemmas.List.Sorted.{Contains-permutation, IsPermutation-sym}
use Rattle.std.proofs.lemmas.Slice.Eq.{bytes_eq-Decides}
use Rattle.kr_config.specs.declared.class.Class.{Class}
use Rattle.kr_config.specs.declared.class.Class.TheVariants.{Exact, Group, Rest}
use Rattle.kr_config.specs.contracts.class.ClassOrd.TheImpl as ord
use Rattle.kr_config.specs.contracts.class.ClassOrd.TheImpl.Laws as ord_laws
use Rattle.kr_config.specs.contracts.class.ClassPartialEq.TheImpl as eq
use Rattle.kr_config.specs.contracts.class.ClassEq.TheImpl.Laws as eq_laws
use Rattle.kr_config.specs.Classes.{class_cmp}

abbrev derived_cmp : Class → Class → Ordering
derived_cmp a b = (ord.ghosts).cmp a b

abbrev equals : Class → Class → Bool
equals a b = (eq.ghosts).eq a b

same_order : (a b : Class) → derived_cmp a b ≡ class_cmp a b
same_order (Exact a) (Exact b) = refl
same_order (Group a) (Exact b) = refl
same_order Rest (Exact b) = refl
same_order other another = refl

total : IsTotalOrder derived_cmp
total = ord_laws.total-law

ties : (a b : Class) → equals a b ≡ eq_by_cmp derived_cmp a b
ties a b = ord_laws.matches_eq-law a b

equivalence : IsEquivalence equals
equivalence = eq_laws.laws-law

alike : (a b : Class) → equals a b ≡ true → a ≡ b
alike (Exact a) (Exact b) h = ap Exact ((bytes_eq-Decides a b).0 h)
alike (Group a) (Group b) h = ap Group ((bytes_eq-Decides a b).0 h)
alike Rest Rest h = refl
alike other another h = cc

pub class_total : IsTotalOrder class_cmp
class_total = subst IsTotalOrder (λ i a b. same_order a b i) total

pub in_order : (xs ys zs : List Class) → IsPermutation xs ys → IsSorted derived_cmp ys
    → zs ≡ dedup equals ys → IsStrictlySortedBy class_cmp zs
in_order xs ys zs moved sorted is =
    let cmps : derived_cmp ≡ class_cmp = λ i a b. same_order a b i in
    subst (λ l. IsStrictlySortedBy class_cmp l) (sym is)
    (subst (λ r. IsStrictlySortedBy r (dedup equals ys)) cmps
    (IsStrictlySortedBy-dedup total ties ys sorted))

pub same_members : (xs ys zs : List Class) → IsPermutation xs ys → zs ≡ dedup equals ys
    → (class : Class) → Contains zs class ↔ Contains xs class
same_members xs ys zs moved is class = (
  λ h. Contains-permutation ys xs class (IsPermutation-sym xs ys moved)
      (Contains-from_dedup equals ys class (subst (λ l. Contains l class) is h)),
  λ h. subst (λ l. Contains l class) (sym is)
      (Contains-dedup equivalence alike ys class (Contains-permutation xs ys class moved h)),
)
