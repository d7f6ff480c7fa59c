-- Items in the order of their paths, by recursion.
use Rattle.std.proofs.Common.{◌≡◌, ℕ, Bool, true, false, List, [], ◌∷◌, ◌++◌, map, refl, sym, ap, ◌∙◌, subst}
use Rattle.std.specs.declared.cmp.Ordering.{Ordering}
use Rattle.std.specs.declared.cmp.Ordering.TheVariants.{Less, Equal, Greater}
use Rattle.std.specs.Cmp.Lexicographic.{slice_cmp}
use Rattle.std.specs.List.{AllByRecursion}
use Rattle.std.specs.List.Sorted.{IsStrictlySortedBy}
use Rattle.std.specs.Ordering.{nat_cmp, is_lt, ordering_reverse}
use Rattle.std.specs.Str.{bytes_eq}
use Rattle.std.proofs.lemmas.Cmp.{nat_list_cmp_total}
use Rattle.std.proofs.lemmas.Slice.Eq.{bytes_eq-Decides}
use Rattle.kr_watch.specs.declared.item.Item.{Item}
use Rattle.kr_watch.specs.Pages.{is_above}
use Rattle.kr_watch.specs.Shown.{AreInOrder}

-- ---- paths

abbrev pub path_cmp : List ℕ → List ℕ → Ordering
path_cmp = slice_cmp nat_cmp

pub to_false : (b : Bool) → (b ≡ true → ⊥) → b ≡ false
to_false true h = absurd (h refl)
to_false false h = refl

pub same_path : (p q : List ℕ) → bytes_eq p q ≡ true → p ≡ q
same_path p q e = (bytes_eq-Decides p q).0 e

pub equal_paths : (p q : List ℕ) → p ≡ q → bytes_eq p q ≡ true
equal_paths p q e = (bytes_eq-Decides p q).1 e

pub below_trans : (p q r : List ℕ) → path_cmp p q ≡ Less → path_cmp q r ≡ Less
    → path_cmp p r ≡ Less
below_trans p q r l m = nat_list_cmp_total.trans p q r l m

pub below_itself : (p : List ℕ) → path_cmp p p ≡ Less → ⊥
below_itself p l =
    let x : Less ≡ Greater = sym l ∙ nat_list_cmp_total.antisymm p p ∙ ap ordering_reverse l in cc

pub below_apart : (p q : List ℕ) → path_cmp p q ≡ Less → bytes_eq p q ≡ false
below_apart p q l = to_false (bytes_eq p q)
    (λ e. below_itself q (subst (λ r. path_cmp r q ≡ Less) (same_path p q e) l))

pub above_apart : (p q : List ℕ) → path_cmp p q ≡ Less → bytes_eq q p ≡ false
above_apart p q l = to_false (bytes_eq q p)
    (λ e. below_itself q (subst (λ r. path_cmp r q ≡ Less) (sym (same_path q p e)) l))

pub lt_less : (r : Ordering) → is_lt r ≡ true → r ≡ Less
lt_less Less e = refl
lt_less Equal e = cc
lt_less Greater e = cc

pub above_less : (path : List ℕ) (item : Item) → is_above path item ≡ true
    → path_cmp path item.path ≡ Less
above_less path item e = lt_less (path_cmp path item.path) e

pub less_above : (path : List ℕ) (item : Item) → path_cmp path item.path ≡ Less
    → is_above path item ≡ true
less_above path item l = ap is_lt l

-- ---- items in order

abbrev pub IsBelow : Item → Item → Type 0
IsBelow x y = path_cmp x.path y.path ≡ Less

abbrev pub Rise : List Item → Type 0
Rise [] = Unit {0}
Rise (x ∷ xs) = AllByRecursion (IsBelow x) xs × Rise xs

all_items : (x : Item) (xs : List Item)
    → AllByRecursion (λ q. path_cmp x.path q ≡ Less) (map (λ item. item.path) xs)
    → AllByRecursion (IsBelow x) xs
all_items x [] h = tt
all_items x (y ∷ ys) h = (h.0, all_items x ys h.1)

all_paths : (x : Item) (xs : List Item) → AllByRecursion (IsBelow x) xs
    → AllByRecursion (λ q. path_cmp x.path q ≡ Less) (map (λ item. item.path) xs)
all_paths x [] h = tt
all_paths x (y ∷ ys) h = (h.0, all_paths x ys h.1)

pub rise : (items : List Item) → AreInOrder items → Rise items
unfolding IsStrictlySortedBy
rise [] s = tt
rise (x ∷ xs) s = (all_items x xs s.0, rise xs s.1)

pub in_order : (items : List Item) → Rise items → AreInOrder items
unfolding IsStrictlySortedBy
in_order [] r = tt
in_order (x ∷ xs) r = (all_paths x xs r.0, in_order xs r.1)

-- ---- lists with a fact of each item

pub all_append : (P : Item → Type 0) (xs ys : List Item) → AllByRecursion P xs
    → AllByRecursion P ys → AllByRecursion P (xs ++ ys)
all_append P [] ys h k = k
all_append P (x ∷ xs) ys h k = (h.0, all_append P xs ys h.1 k)

pub all_front : (P : Item → Type 0) (xs ys : List Item) → AllByRecursion P (xs ++ ys)
    → AllByRecursion P xs
all_front P [] ys h = tt
all_front P (x ∷ xs) ys h = (h.0, all_front P xs ys h.1)

pub all_back : (P : Item → Type 0) (xs ys : List Item) → AllByRecursion P (xs ++ ys)
    → AllByRecursion P ys
all_back P [] ys h = h
all_back P (x ∷ xs) ys h = all_back P xs ys h.1

pub all_weaker : (P Q : Item → Type 0) → ((x : Item) → P x → Q x) → (xs : List Item)
    → AllByRecursion P xs → AllByRecursion Q xs
all_weaker P Q f [] h = tt
all_weaker P Q f (x ∷ xs) h = (f x h.0, all_weaker P Q f xs h.1)

-- ---- what stands before and behind an item

pub rise_front : (front : List Item) (x : Item) (back : List Item) → Rise (front ++ x ∷ back)
    → AllByRecursion (λ y. IsBelow y x) front
rise_front [] x back r = tt
rise_front (y ∷ front) x back r =
    ((all_back (IsBelow y) front (x ∷ back) r.0).0, rise_front front x back r.1)

pub rise_back : (front : List Item) (x : Item) (back : List Item) → Rise (front ++ x ∷ back)
    → AllByRecursion (IsBelow x) back
rise_back [] x back r = r.0
rise_back (y ∷ front) x back r = rise_back front x back r.1

-- ---- above and up to a path

-- none has a path above this one
abbrev pub AreUpTo : (path : List ℕ) → List Item → Type 0
AreUpTo path items = AllByRecursion (λ item. is_above path item ≡ false) items

-- each has
abbrev pub AreAbove : (path : List ℕ) → List Item → Type 0
AreAbove path items = AllByRecursion (λ item. is_above path item ≡ true) items

pub above_behind : (path : List ℕ) (x : Item) → is_above path x ≡ true → (y : Item)
    → IsBelow x y → is_above path y ≡ true
above_behind path x e y l = less_above path y
    (below_trans path x.path y.path (above_less path x e) l)
