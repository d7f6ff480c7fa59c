-- The lists of settings that have an entry for each class of a table.
use Rattle.std.proofs.Common.{◌≡◌, ℕ, Bool, true, false, List, [], ◌∷◌, Some, Contains, refl, sym, ap, subst, ◌∙◌, ◌⊎◌, inl, inr, arith}
use Rattle.std.specs.Prelude.{if◌then◌else◌, cond, ◌||◌}
use Rattle.std.specs.List.{AllByRecursion, find, list_any}
use Rattle.std.specs.List.Sorted.{IsStrictlySortedBy}
use Rattle.std.specs.Ordering.{ordering_reverse}
use Rattle.std.specs.declared.cmp.Ordering.TheVariants.{Less, Greater}
use Rattle.std.proofs.lemmas.Bool.{false≢true}
use Rattle.std.proofs.lemmas.List.Folds.{list_any_at}
use Rattle.std.proofs.lemmas.Option.{none-some, same_Some}
use Rattle.std.proofs.lemmas.Slice.Eq.{bytes_eq-Decides}
use Rattle.kr_config.specs.declared.class.Class.{Class}
use Rattle.kr_config.specs.declared.class.Class.TheVariants.{Exact, Group, Rest}
use Rattle.kr_config.specs.declared.pattern.Pattern.{Pattern}
use Rattle.kr_config.specs.declared.who.Who.{Who}
use Rattle.kr_config.specs.Classes.{class_cmp, class_in, is_exact, is_group, IsTableOf}
use Rattle.kr_config.specs.Kept.{ConfigEntry}
use Rattle.kr_config.specs.Lists.{first_list, class_list}
use Rattle.kr_config.specs.Patterns.{resource_group, matches, covers_group, covers_rest}
use Rattle.kr_config.proofs.ClassTables.{law_of_classes, known_class, group_narrows}
use Rattle.kr_config.proofs.Orders.{class_total}
use Rattle.kr_config.proofs.Places.{exact_is, group_is}
use Rattle.kr_config.proofs.ListParts.{here, there, cases, its_own}
use Rattle.kr_config.proofs.Narrowing.{known_in, has_rest, class_there}
use Rattle.kr_config.specs.ClassEntries.{class_pattern, class_rows}
use Rattle.kr_config.specs.Laws.{EachClassItsEntry, EntriesNarrow}

-- the first of these whose pattern passes a test has the list
first_by : (list : Class → List Who) (test : Pattern → Bool) (classes : List Class) (c : Class)
    → find (λ x. test (class_pattern x)) classes ≡ Some c
    → first_list test (class_rows list classes) ≡ list c
first_by list test [] c h = absurd (none-some c h)
first_by list test (x ∷ xs) c h = by (test (class_pattern x)) (first_by list test xs c) h
  where
    by : (v : Bool) → (find (λ y. test (class_pattern y)) xs ≡ Some c
        → first_list test (class_rows list xs) ≡ list c)
        → cond v (Some x) (find (λ y. test (class_pattern y)) xs) ≡ Some c
        → (if v || false then list x else first_list test (class_rows list xs)) ≡ list c
    by true rest k = ap list (same_Some x c k)
    by false rest k = rest k

-- ---- the first of classes in their order

at_member : (P : Class → Type 0) (cs : List Class) (x : Class) → AllByRecursion P cs → Contains cs x
    → P x
at_member P [] x all h = absurd (omega (arith, h.1))
at_member P (c ∷ cs) x all h = elim (cases c x cs h) [
  | inl e ↦ subst P e all.0
  | inr m ↦ at_member P cs x all.1 m
]

not_both : (a b : Class) → class_cmp a b ≡ Less → class_cmp b a ≡ Less → ⊥
not_both a b h k = absurd (
    let e : Less ≡ Greater = sym k ∙ class_total.antisymm b a ∙ ap ordering_reverse h in cc)

-- the one that passes and comes before all others that do is found
found_least : (test : Class → Bool) (classes : List Class) (c : Class)
    → IsStrictlySortedBy class_cmp classes → Contains classes c → test c ≡ true
    → ((d : Class) → Contains classes d → test d ≡ true → (d ≡ c) ⊎ (class_cmp c d ≡ Less))
    → find test classes ≡ Some c
unfolding IsStrictlySortedBy
found_least test [] c s h t least = absurd (omega (arith, h.1))
found_least test (x ∷ xs) c s h t least =
    by (test x) refl (cases x c xs h)
    (λ m. found_least test xs c s.1 m t (λ d n. least d (there x d xs n)))
  where
    by : (v : Bool) → test x ≡ v → (x ≡ c) ⊎ Contains xs c
        → (Contains xs c → find test xs ≡ Some c) → cond v (Some x) (find test xs) ≡ Some c
    by true e (inl q) rest = ap Some q
    by true e (inr m) rest = elim (least x (here x xs) e) [
      | inl q ↦ ap Some q
      | inr l ↦ absurd (not_both c x l (at_member (λ y. class_cmp x y ≡ Less) xs c s.0 m))
    ]
    by false e (inl q) rest = absurd (let k : true ≡ false = sym t ∙ ap test (sym q) ∙ e in cc)
    by false e (inr m) rest = rest m

not_there : (test : Class → Bool) (classes : List Class) (d : Class) → list_any test classes ≡ false
    → Contains classes d → test d ≡ true → ⊥
not_there test classes d none m t =
    false≢true (sym none ∙ list_any_at test classes m.0 d m.1 (ap test m.2 ∙ t))

-- ---- which class of a table has a class's list

abbrev pub narrow : List Class → Class → Class
narrow classes (Exact text) = class_in classes text
narrow classes (Group group) = if list_any (is_group group) classes then Group group else Rest
narrow classes Rest = Rest

abbrev exact_test : List ℕ → Class → Bool
exact_test text class = matches (class_pattern class) text

abbrev group_test : List ℕ → Class → Bool
group_test group class = covers_group (class_pattern class) group

abbrev rest_test : Class → Bool
rest_test class = covers_rest (class_pattern class)

abbrev IsBehind : Class → Class → Type 0
IsBehind c d = (d ≡ c) ⊎ (class_cmp c d ≡ Less)

exact_least : (text : List ℕ) (d : Class) → exact_test text d ≡ true → IsBehind (Exact text) d
exact_least text (Exact own) t = inl (ap Exact ((bytes_eq-Decides own text).0 t))
exact_least text (Group own) t = inr refl
exact_least text Rest t = inr refl

group_least : (text : List ℕ) (classes : List Class) → list_any (is_exact text) classes ≡ false
    → (d : Class) → Contains classes d → exact_test text d ≡ true
    → IsBehind (Group (resource_group text)) d
group_least text classes none (Exact own) m t =
    absurd (not_there (is_exact text) classes (Exact own) none m t)
group_least text classes none (Group own) m t =
    inl (ap Group ((bytes_eq-Decides own (resource_group text)).0 t))
group_least text classes none Rest m t = inr refl

rest_least : (text : List ℕ) (classes : List Class) → list_any (is_exact text) classes ≡ false
    → list_any (is_group (resource_group text)) classes ≡ false
    → (d : Class) → Contains classes d → exact_test text d ≡ true → IsBehind Rest d
rest_least text classes none other (Exact own) m t =
    absurd (not_there (is_exact text) classes (Exact own) none m t)
rest_least text classes none other (Group own) m t =
    absurd (not_there (is_group (resource_group text)) classes (Group own) other m t)
rest_least text classes none other Rest m t = inl refl

found_exact : (classes : List Class) (text : List ℕ) → IsStrictlySortedBy class_cmp classes
    → Contains classes Rest → find (exact_test text) classes ≡ Some (class_in classes text)
unfolding class_in
found_exact classes text s rest =
    by (list_any (is_exact text) classes) (list_any (is_group (resource_group text)) classes) refl refl
  where
    by : (b c : Bool) → list_any (is_exact text) classes ≡ b
        → list_any (is_group (resource_group text)) classes ≡ c
        → find (exact_test text) classes
        ≡ Some (if b then Exact text else if c then Group (resource_group text) else Rest)
    by true c h k = found_least (exact_test text) classes (Exact text) s
        (known_in (is_exact text) (Exact text) classes (exact_is text) h) (its_own text)
        (λ d m t. exact_least text d t)
    by false true h k = found_least (exact_test text) classes (Group (resource_group text)) s
        (known_in (is_group (resource_group text)) (Group (resource_group text)) classes
        (group_is (resource_group text)) k) (its_own (resource_group text)) (group_least text classes h)
    by false false h k = found_least (exact_test text) classes Rest s rest refl
        (rest_least text classes h k)

own_least : (group : List ℕ) (d : Class) → group_test group d ≡ true → IsBehind (Group group) d
own_least group (Exact own) t = absurd (false≢true t)
own_least group (Group own) t = inl (ap Group ((bytes_eq-Decides own group).0 t))
own_least group Rest t = inr refl

other_least : (group : List ℕ) (classes : List Class) → list_any (is_group group) classes ≡ false
    → (d : Class) → Contains classes d → group_test group d ≡ true → IsBehind Rest d
other_least group classes none (Exact own) m t = absurd (false≢true t)
other_least group classes none (Group own) m t =
    absurd (not_there (is_group group) classes (Group own) none m t)
other_least group classes none Rest m t = inl refl

found_group : (classes : List Class) (group : List ℕ) → IsStrictlySortedBy class_cmp classes
    → Contains classes Rest → find (group_test group) classes ≡ Some (narrow classes (Group group))
found_group classes group s rest = by (list_any (is_group group) classes) refl
  where
    by : (b : Bool) → list_any (is_group group) classes ≡ b
        → find (group_test group) classes ≡ Some (if b then Group group else Rest)
    by true h = found_least (group_test group) classes (Group group) s
        (known_in (is_group group) (Group group) classes (group_is group) h) (its_own group)
        (λ d m t. own_least group d t)
    by false h = found_least (group_test group) classes Rest s rest refl
        (other_least group classes h)

alone_least : (d : Class) → rest_test d ≡ true → IsBehind Rest d
alone_least Rest t = inl refl
alone_least other t = absurd (false≢true t)

pub made_list : (list : Class → List Who) (classes : List Class) (class : Class)
    → IsStrictlySortedBy class_cmp classes → Contains classes Rest
    → class_list (class_rows list classes) class ≡ list (narrow classes class)
made_list list classes (Exact text) s rest = first_by list (λ p. matches p text) classes
    (class_in classes text) (found_exact classes text s rest)
made_list list classes (Group group) s rest = first_by list (λ p. covers_group p group) classes
    (narrow classes (Group group)) (found_group classes group s rest)
made_list list classes Rest s rest = first_by list covers_rest classes Rest
    (found_least rest_test classes Rest s rest refl (λ d m t. alone_least d t))

-- the list of a class is that of the class to which it narrows
pub narrows : (added : List (List ConfigEntry)) (classes : List Class) (class : Class) (rows : List ConfigEntry)
    → IsTableOf added classes → Contains added rows
    → class_list rows class ≡ class_list rows (narrow classes class)
narrows added classes (Exact text) rows table there =
    law_of_classes added classes rows text table there
narrows added classes (Group group) rows table there =
    by (list_any (is_group group) classes) refl
  where
    by : (b : Bool) → list_any (is_group group) classes ≡ b
        → class_list rows (Group group) ≡ class_list rows (if b then Group group else Rest)
    by true h = refl
    by false h = group_narrows classes group h rows (known_class added classes rows table there)
narrows added classes Rest rows table there = refl

-- ---- the laws

-- a class of the table narrows to itself
itself : (classes : List Class) (class : Class) → Contains classes class
    → narrow classes class ≡ class
unfolding class_in
itself classes (Exact text) m =
    ap (λ b. if b then Exact text
    else if list_any (is_group (resource_group text)) classes then Group (resource_group text) else Rest)
    (list_any_at (is_exact text) classes m.0 (Exact text) m.1
    (ap (is_exact text) m.2 ∙ its_own text))
itself classes (Group group) m = ap (λ b. if b then Group group else Rest)
    (list_any_at (is_group group) classes m.0 (Group group) m.1
    (ap (is_group group) m.2 ∙ its_own group))
itself classes Rest m = refl

pub narrow_there : (added : List (List ConfigEntry)) (classes : List Class) (class : Class)
    → IsTableOf added classes → Contains classes (narrow classes class)
narrow_there added classes (Exact text) table = class_there added classes text table
narrow_there added classes (Group group) table = by (list_any (is_group group) classes) refl
  where
    by : (b : Bool) → list_any (is_group group) classes ≡ b
        → Contains classes (if b then Group group else Rest)
    by true h = known_in (is_group group) (Group group) classes (group_is group) h
    by false h = has_rest added classes table
narrow_there added classes Rest table = has_rest added classes table

pub entries_narrow : EntriesNarrow
entries_narrow added classes list class table = (
  narrow classes class,
  narrow_there added classes class table,
  made_list list classes class table.ascends (has_rest added classes table),
  λ rows there. narrows added classes class rows table there,
)

pub each_class_its_entry : EachClassItsEntry
each_class_its_entry added classes list class table m =
    made_list list classes class table.ascends (has_rest added classes table)
    ∙ ap list (itself classes class m)
