-- Merged lists have no prefix twice, where there is no clash.
use Rattle.std.proofs.Common.{◌≡◌, ℕ, Bool, true, false, List, [], ◌∷◌, ◌++◌, Contains, None, Some, refl, sym, ap, subst, ◌∙◌, inl, inr, arith}
use Rattle.std.specs.Prelude.{◌&&◌, not, cond}
use Rattle.std.specs.List.{filter, find, list_all, list_any}
use Rattle.std.specs.Str.{bytes_eq}
use Rattle.std.proofs.lemmas.Bool.{false≢true}
use Rattle.std.proofs.lemmas.List.Elements.{All-contains, All-contains_itself, All-filter, All-weaker, filter_passes}
use Rattle.std.proofs.lemmas.List.Folds.{list_all-append, list_any_at}
use Rattle.std.proofs.lemmas.List.Sums.{AllPass-from_list_all, list_all-from_AllPass}
use Rattle.std.proofs.lemmas.Slice.Eq.{bytes_eq-Decides}
use Rattle.kr_config.specs.declared.who.Who.{Who}
use Rattle.kr_config.specs.declared.who.Who.TheVariants.{Identity, Aescbc, Aesgcm, Kms}
use Rattle.kr_config.specs.Kept.{apart}
use Rattle.kr_config.specs.Providers.{rivals}
use Rattle.kr_config.proofs.Inversions.{both, left, right}
use Rattle.kr_judge.specs.Providers.{has, same_who}
use Rattle.kr_config.proofs.ListParts.{here, there, cases}
use Rattle.kr_judge.proofs.Members.{is_one, itself}
use Rattle.kr_plan.specs.Merges.{merge}
use Rattle.kr_plan.specs.Plans.{clash, first_clash}
use Rattle.kr_judge.proofs.Lacking.{filtered}

-- ---- lists of which no two clash

pub all_of : {T : Type 0} (test : T → Bool) (xs : List T)
    → ((x : T) → Contains xs x → test x ≡ true) → list_all test xs ≡ true
all_of test xs h = list_all-from_AllPass test xs
    (All-weaker (Contains xs) (λ x. test x ≡ true) h xs (All-contains_itself xs))

pub apart_join : {T : Type 0} (clashes : T → T → Bool) (xs ys : List T) → apart clashes xs ≡ true
    → apart clashes ys ≡ true
    → ((x y : T) → Contains xs x → Contains ys y → clashes x y ≡ false)
    → apart clashes (xs ++ ys) ≡ true
apart_join clashes [] ys a b h = b
apart_join {T} clashes (x ∷ xs) ys a b h =
    let test : T → Bool = λ y. not (clashes x y) in
    both (list_all test (xs ++ ys)) (apart clashes (xs ++ ys))
    (list_all-append test xs ys
    ∙ both (list_all test xs) (list_all test ys) (left (list_all test xs) (apart clashes xs) a)
    (all_of test ys (λ y m. ap not (h x y (here x xs) m))))
    (apart_join clashes xs ys (right (list_all test xs) (apart clashes xs) a) b
    (λ z y m n. h z y (there x z xs m) n))

pub all_filter : {T : Type 0} (test keep : T → Bool) (xs : List T) → list_all test xs ≡ true
    → list_all test (filter keep xs) ≡ true
all_filter test keep xs h = list_all-from_AllPass test (filter keep xs)
    (All-filter keep (λ x. test x ≡ true) xs (AllPass-from_list_all test xs h))

pub apart_filter : {T : Type 0} (clashes : T → T → Bool) (keep : T → Bool) (xs : List T)
    → apart clashes xs ≡ true → apart clashes (filter keep xs) ≡ true
apart_filter clashes keep [] a = refl
apart_filter {T} clashes keep (x ∷ xs) a =
    by (keep x) (apart_filter clashes keep xs (right (list_all test xs) (apart clashes xs) a))
  where
    test : T → Bool
    test y = not (clashes x y)

    by : (v : Bool) → apart clashes (filter keep xs) ≡ true
        → apart clashes (cond v (x ∷ filter keep xs) (filter keep xs)) ≡ true
    by true rest = both (list_all (λ y. not (clashes x y)) (filter keep xs))
        (apart clashes (filter keep xs))
        (all_filter (λ y. not (clashes x y)) keep xs
        (left (list_all (λ y. not (clashes x y)) xs) (apart clashes xs) a)) rest
    by false rest = rest

-- ---- clashes

find_none : {T : Type 0} (test : T → Bool) (xs : List T) (x : T) → find test xs ≡ None
    → Contains xs x → test x ≡ false
find_none test [] x h m = absurd (omega (arith, m.1))
find_none {T} test (y ∷ ys) x h m = by (test y) refl h (find_none test ys x)
  where
    by : (v : Bool) → test y ≡ v → cond v (Some y) (find test ys) ≡ None
        → (find test ys ≡ None → Contains ys x → test x ≡ false) → test x ≡ false
    by true e k rest = absurd cc
    by false e k rest = elim (cases y x ys m) [
      | inl q ↦ subst (λ z. test z ≡ false) q e
      | inr n ↦ rest k n
    ]

pub any_none : {T : Type 0} (test : T → Bool) (xs : List T) (x : T) → list_any test xs ≡ false
    → Contains xs x → test x ≡ false
any_none test xs x none m = by (test x) refl
  where
    by : (v : Bool) → test x ≡ v → test x ≡ false
    by true t = absurd (false≢true
        (sym none ∙ list_any_at test xs m.0 x m.1 (ap test m.2 ∙ t)))
    by false t = t

pub no_clash : (one other : List Who) → first_clash one other ≡ None → (a b : Who)
    → Contains one a → Contains other b → clash a b ≡ false
no_clash one other h a b m n = any_none (clash a) other b
    (find_none (λ who. list_any (clash who) other) one a h m) n

then_true : (r s : Bool) → (r && not s) ≡ false → r ≡ true → s ≡ true
then_true true true h k = refl
then_true true false h k = absurd cc
then_true false s h k = absurd (false≢true k)

then_false : (r s : Bool) → (r ≡ true → s ≡ true) → (r && not s) ≡ false
then_false true true h = refl
then_false true false h = absurd (false≢true (h refl))
then_false false s h = refl

eq_turn : (a b : List ℕ) → bytes_eq a b ≡ true → bytes_eq b a ≡ true
eq_turn a b h = (bytes_eq-Decides b a).1 (sym ((bytes_eq-Decides a b).0 h))

rivals_turn : (a b : Who) → rivals a b ≡ true → rivals b a ≡ true
rivals_turn Identity Identity h = refl
rivals_turn (Aescbc a s) (Aescbc b t) h = eq_turn a b h
rivals_turn (Aesgcm a s) (Aesgcm b t) h = eq_turn a b h
rivals_turn (Kms a) (Kms b) h = eq_turn a b h
rivals_turn other another h = h

pub same_turn : (a b : Who) → same_who a b ≡ true → same_who b a ≡ true
same_turn a b h = subst (λ w. same_who w a ≡ true) (is_one a b h) (itself a)

pub clash_turn : (a b : Who) → clash a b ≡ false → clash b a ≡ false
clash_turn a b h = then_false (rivals b a) (same_who b a)
    (λ r. same_turn a b (then_true (rivals a b) (same_who a b) h (rivals_turn b a r)))

-- one provider is its own rival
pub same_rivals : (a b : Who) → same_who a b ≡ true → rivals a b ≡ true
same_rivals a b h = subst (λ w. rivals a w ≡ true) (is_one a b h) (its_rival a)
  where
    own : (name : List ℕ) → bytes_eq name name ≡ true
    own name = (bytes_eq-Decides name name).1 refl

    its_rival : (who : Who) → rivals who who ≡ true
    its_rival Identity = refl
    its_rival (Aescbc name secret) = own name
    its_rival (Aesgcm name secret) = own name
    its_rival (Kms name) = own name

-- ---- merged lists

pub merged_apart : (one other : List Who) → apart rivals one ≡ true → apart rivals other ≡ true
    → ((a b : Who) → Contains one a → Contains other b → clash a b ≡ false)
    → apart rivals (merge one other) ≡ true
merged_apart one other a b none =
    let new : Who → Bool = λ who. not (has one who) in
    apart_join rivals one (filter new other) a (apart_filter rivals new other b)
    (λ x y m n. by x y m n (rivals x y) refl)
  where
    by : (x y : Who) → Contains one x → Contains (filter (λ who. not (has one who)) other) y
        → (v : Bool) → rivals x y ≡ v → rivals x y ≡ false
    by x y m n true e =
        let new : Who → Bool = λ who. not (has one who) in
        let same : same_who x y ≡ true =
        then_true (rivals x y) (same_who x y) (none x y m (filtered new other y n).0) e in
        let there_too : has one y ≡ true =
        list_any_at (λ own. same_who own y) one m.0 x m.1
        (ap (λ own. same_who own y) m.2 ∙ same) in
        let passes : new y ≡ true =
        All-contains (λ who. new who ≡ true) (filter new other) y (filter_passes new other) n in
        absurd (false≢true (sym (ap not there_too) ∙ passes))
    by x y m n false e = e
