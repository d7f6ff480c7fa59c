-- Each class has the list of one that the table has.
use Rattle.std.proofs.Common.{◌≡◌, ◌≢◌, ℕ, Bool, true, false, List, ◌∷◌, None, Some, All, Contains}
use Rattle.std.proofs.Common.{Option, ◌↔◌, refl, subst, arith}
use Rattle.std.specs.Prelude.{if◌then◌else◌}
use Rattle.std.specs.List.{list_any, flat_map}
use Rattle.std.specs.declared.cmp.Ordering.TheVariants.{Less}
use Rattle.std.proofs.lemmas.List.Elements.{All-contains, All-contains_itself, All-weaker}
use Rattle.std.proofs.lemmas.List.Folds.{Any-from_list_any}
use Rattle.kr_config.specs.declared.class.Class.{Class}
use Rattle.kr_config.specs.declared.class.Class.TheVariants.{Exact, Group, Rest}
use Rattle.kr_config.specs.Kept.{ConfigEntry}
use Rattle.kr_config.specs.Patterns.{resource_group}
use Rattle.kr_config.specs.Lists.{class_list}
use Rattle.kr_config.specs.Classes.{classes_in, IsTableOf, class_in, class_cmp, is_exact, is_group}
use Rattle.kr_config.specs.Nexts.{comes_after, IsNextClass}
use Rattle.kr_config.specs.Laws.{EachClassNarrows, NextInTable}
use Rattle.kr_config.proofs.Places.{exact_is, group_is}
use Rattle.kr_config.proofs.ClassTables.{law_of_classes, known_class, group_narrows}

pub known_in : (test : Class → Bool) (class : Class) (classes : List Class)
    → ((c : Class) → test c ≡ true → c ≡ class) → list_any test classes ≡ true
    → Contains classes class
known_in test class classes is h = let some = Any-from_list_any test classes h in
    subst (Contains classes) (is some.1 some.4) (some.0, some.2, some.3)

pub has_rest : (added : List (List ConfigEntry)) (classes : List Class) → IsTableOf added classes
    → Contains classes Rest
has_rest added classes table = (table.members Rest).1 (one_first Rest (flat_map classes_in added))
  where
    one_first : (c : Class) (cs : List Class) → Contains (c ∷ cs) c
    one_first c cs = (0, omega arith, refl)

pub class_there : (added : List (List ConfigEntry)) (classes : List Class) (resource : List ℕ)
    → IsTableOf added classes → Contains classes (class_in classes resource)
unfolding class_in
class_there added classes resource table =
    by (list_any (is_exact resource) classes) (list_any (is_group (resource_group resource)) classes) refl
    refl
  where
    by : (b c : Bool) → list_any (is_exact resource) classes ≡ b
        → list_any (is_group (resource_group resource)) classes ≡ c
        → Contains classes (if b then Exact resource else if c then Group (resource_group resource)
        else Rest)
    by true c h k = known_in (is_exact resource) (Exact resource) classes (exact_is resource) h
    by false true h k = known_in (is_group (resource_group resource)) (Group (resource_group resource)) classes
        (group_is (resource_group resource)) k
    by false false h k = has_rest added classes table

abbrev Narrows : List (List ConfigEntry) → List Class → Class → Type 0
Narrows added classes class =
    (kept : Class) × Contains classes kept
    × ((rows : List ConfigEntry) → Contains added rows → class_list rows class ≡ class_list rows kept)

group_by : (added : List (List ConfigEntry)) (classes : List Class) (group : List ℕ) (v : Bool)
    → IsTableOf added classes → list_any (is_group group) classes ≡ v
    → Narrows added classes (Group group)
group_by added classes group true table h = (
  Group group,
  known_in (is_group group) (Group group) classes (group_is group) h,
  λ rows there.
      refl,
)
group_by added classes group false table h = (
  Rest,
  has_rest added classes table,
  λ rows there.
      group_narrows classes group h rows (known_class added classes rows table there),
)

pub each_class_narrows : EachClassNarrows
each_class_narrows added classes (Exact resource) table = (
  class_in classes resource,
  class_there added classes resource table,
  λ rows there.
      law_of_classes added classes rows resource table there,
)
each_class_narrows added classes (Group group) table =
    group_by added classes group (list_any (is_group group) classes) table refl
each_class_narrows added classes Rest table =
    (Rest, has_rest added classes table, λ rows there. refl)

-- what is least in a list is least in another of the same members
pub all_same : (P : Class → Type 0) (xs ys : List Class)
    → ((c : Class) → Contains ys c → Contains xs c) → All P xs → All P ys
all_same P xs ys same h = All-weaker (Contains ys) P
    (λ c there. All-contains P xs c h (same c there)) ys (All-contains_itself ys)

pub same_least : (xs ys : List Class) (after next : Option Class)
    → ((c : Class) → Contains xs c ↔ Contains ys c) → IsNextClass xs after next
    → IsNextClass ys after next
same_least xs ys after None same h =
    all_same (λ c. comes_after after c ≡ false) xs ys (λ c there. (same c).1 there) h
same_least xs ys after (Some next) same h = (
  (same next).0 h.0,
  h.1,
  all_same (λ c. comes_after after c ≡ true → class_cmp c next ≢ Less) xs ys
      (λ c there. (same c).1 there) h.2,
)

pub next_in_table : NextInTable
next_in_table added classes after next table h =
    same_least (Rest ∷ flat_map classes_in added) classes after next
    (λ c. ((table.members c).1, (table.members c).0)) h
