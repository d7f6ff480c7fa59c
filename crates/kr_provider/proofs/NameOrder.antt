-- Names by their bytes: the order, and the seeds that are made in it.
use Rattle.std.proofs.Common.{◌≡◌, ◌≢◌, ℕ, zero, suc, ◌+◌, ◌<◌, ◌≤◌, Bool, true, false, List, [], ◌∷◌, ◌++◌, refl, sym, ◌∙◌, ap, subst, arith, Contains}
use Rattle.std.specs.Prelude.{Some, if◌then◌else◌}
use Rattle.std.specs.List.{AllByRecursion}
use Rattle.std.specs.List.Sorted.{IsStrictlySortedBy}
use Rattle.std.specs.Ordering.{is_lt, ordering_reverse}
use Rattle.std.specs.declared.cmp.Ordering.{Ordering}
use Rattle.std.specs.declared.cmp.Ordering.TheVariants.{Less, Equal, Greater}
use Rattle.std.proofs.lemmas.Cmp.{nat_list_cmp_total}
use Rattle.std.proofs.lemmas.List.Elements.{All-contains}
use Rattle.std.proofs.lemmas.Map.Lookups.{exact_bytes}
use Rattle.kr_config.specs.Nexts.{IsNextName, name_cmp}

-- whether one name comes before another
abbrev pub comes_earlier : List ℕ → List ℕ → Bool
comes_earlier a b = is_lt (name_cmp a b)

less : (o : Ordering) → is_lt o ≡ true → o ≡ Less
less Less e = refl
less other e = absurd (cc)

pub is_less : (a b : List ℕ) → comes_earlier a b ≡ true → name_cmp a b ≡ Less
is_less a b e = less (name_cmp a b) e

pub then_before : (a b c : List ℕ) → comes_earlier a b ≡ true → comes_earlier b c ≡ true
    → comes_earlier a c ≡ true
then_before a b c e f = ap is_lt (nat_list_cmp_total.trans a b c (is_less a b e) (is_less b c f))

-- neither comes before the other only where they are one
pub neither : (a b : List ℕ) → comes_earlier a b ≡ false → comes_earlier b a ≡ false → a ≡ b
neither a b e f = exact_bytes a b (equal (name_cmp a b) (name_cmp b a)
    (nat_list_cmp_total.antisymm a b) e f)
  where
    equal : (o r : Ordering) → o ≡ ordering_reverse r → is_lt o ≡ false → is_lt r ≡ false
        → o ≡ Equal
    equal Less r a e f = absurd (cc)
    equal Equal r a e f = refl
    equal Greater Less a e f = absurd (cc)
    equal Greater Equal a e f = absurd (cc)
    equal Greater Greater a e f = absurd (cc)

pub not_itself : (a : List ℕ) → comes_earlier a a ≡ true → ⊥
not_itself a e = turned (name_cmp a a) (nat_list_cmp_total.antisymm a a) (is_less a a e)
  where
    turned : (o : Ordering) → o ≡ ordering_reverse o → o ≡ Less → ⊥
    turned Less a e = cc
    turned Equal a e = cc
    turned Greater a e = cc

pub to_false : (b : Bool) → (b ≡ true → ⊥) → b ≡ false
to_false true n = absurd (n refl)
to_false false n = refl

pub to_true : (b : Bool) → (b ≡ false → ⊥) → b ≡ true
to_true true n = refl
to_true false n = absurd (n refl)

-- what doesn't come after a name comes before the next one
pub before_next : (after next other : List ℕ) → comes_earlier after next ≡ true
    → comes_earlier after other ≡ false → comes_earlier other next ≡ true
before_next after next other n o = to_true (comes_earlier other next)
    (λ f. by (comes_earlier other after) refl f)
  where
    by : (b : Bool) → comes_earlier other after ≡ b → comes_earlier other next ≡ false → ⊥
    by true e f = let t = then_before other after next e n in cc
    by false e f = let same = neither other after e o in
        let t = subst (λ a. comes_earlier a next ≡ true) (sym same) n in
        cc

-- of the names that come after one, none comes before the next
pub none_between : (names : List (List ℕ)) (after next other : List ℕ)
    → IsNextName names after (Some next) → Contains names other → comes_earlier other next ≡ true
    → comes_earlier after other ≡ false
none_between names after next other n c b = to_false (comes_earlier after other)
    (λ t. All-contains (λ x. comes_earlier after x ≡ true
    → name_cmp x next ≢ Less) names other n.2 c t (is_less other next b))

-- a name joins others, all of which come before it
pub ascend_more : (names : List (List ℕ)) (next : List ℕ) → IsStrictlySortedBy name_cmp names
    → ((other : List ℕ) → Contains names other → name_cmp other next ≡ Less)
    → IsStrictlySortedBy name_cmp (names ++ next ∷ [])
unfolding IsStrictlySortedBy
ascend_more [] next s b = (tt, tt)
ascend_more (x ∷ xs) next s b = (
  all_more (λ y. name_cmp x y ≡ Less) xs next s.0 (b x (0, omega arith, refl)),
  ascend_more xs next s.1 (λ other c. b other (suc c.0, omega (arith, c.1), c.2)),
)
  where
    all_more : (P : List ℕ → Type 0) (ys : List (List ℕ)) (y : List ℕ) → AllByRecursion P ys → P y
        → AllByRecursion P (ys ++ y ∷ [])
    all_more P [] y a p = (p, tt)
    all_more P (z ∷ ys) y a p = (a.0, all_more P ys y a.1 p)

pub IsStrictlySortedBy-none : IsStrictlySortedBy name_cmp []
unfolding IsStrictlySortedBy
IsStrictlySortedBy-none = tt

-- ---- how many names come after one

abbrev pub count_after : List ℕ → List (List ℕ) → ℕ
count_after after [] = 0
count_after after (name ∷ names) = (if comes_earlier after name then 1 else 0) + count_after after names

count_less : (after next : List ℕ) (names : List (List ℕ)) → comes_earlier after next ≡ true
    → count_after next names ≤ count_after after names
count_less after next [] b = omega arith
count_less after next (name ∷ names) b =
    let more = count_less after next names b in
    one (comes_earlier after name) (comes_earlier next name) (count_after after names)
    (count_after next names) more (then_before after next name b)
  where
    one : (a n : Bool) (i j : ℕ) → j ≤ i → (n ≡ true → a ≡ true)
        → (if n then 1 else 0) + j ≤ (if a then 1 else 0) + i
    one true true i j h f = omega (arith, h)
    one true false i j h f = omega (arith, h)
    one false true i j h f = let e = f refl in absurd (cc)
    one false false i j h f = omega (arith, h)

-- behind the next name there are fewer
pub count_falls : (after next : List ℕ) (names : List (List ℕ)) → comes_earlier after next ≡ true
    → Contains names next → count_after next names < count_after after names
count_falls after next [] b c = absurd (omega (arith, c.1))
count_falls after next (name ∷ names) b (zero, lt, e) =
    one (comes_earlier after name) (comes_earlier next name) (count_after after names)
    (count_after next names) (count_less after next names b)
    (ap (comes_earlier after) e ∙ b) (to_false (comes_earlier next name)
    (λ t. not_itself next (sym (ap (comes_earlier next) e) ∙ t)))
  where
    one : (a n : Bool) (i j : ℕ) → j ≤ i → a ≡ true → n ≡ false
        → (if n then 1 else 0) + j < (if a then 1 else 0) + i
    one true true i j h f g = absurd (cc)
    one true false i j h f g = omega (arith, h)
    one false n i j h f g = absurd (cc)
count_falls after next (name ∷ names) b (suc k, lt, e) =
    let more = count_falls after next names b (k, omega (arith, lt), e) in
    one (comes_earlier after name) (comes_earlier next name) (count_after after names)
    (count_after next names) more (then_before after next name b)
  where
    one : (a n : Bool) (i j : ℕ) → j < i → (n ≡ true → a ≡ true)
        → (if n then 1 else 0) + j < (if a then 1 else 0) + i
    one true true i j h f = omega (arith, h)
    one true false i j h f = omega (arith, h)
    one false true i j h f = let e = f refl in absurd (cc)
    one false false i j h f = omega (arith, h)
