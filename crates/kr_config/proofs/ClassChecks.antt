-- The index of settings as tests, and back.
use Rattle.std.proofs.Common.{◌≡◌, suc, Bool, true, List, [], ◌∷◌, ◌++◌}
use Rattle.std.proofs.Common.{get_or, map, All, Contains, refl, sym, ap, subst, ◌∙◌, arith, append-nil}
use Rattle.std.specs.Prelude.{◌&&◌}
use Rattle.std.specs.List.{AllByRecursion, list_all}
use Rattle.std.specs.List.Sorted.{IsStrictlySortedBy}
use Rattle.std.specs.Ordering.{is_lt, is_eq}
use Rattle.std.specs.declared.cmp.Ordering.TheVariants.{Less}
use Rattle.std.proofs.lemmas.Cmp.{tied_itself}
use Rattle.std.proofs.lemmas.List.{get_or-map}
use Rattle.std.proofs.lemmas.List.Elements.{All-contains, All-contains_itself, All-weaker}
use Rattle.std.proofs.lemmas.List.Folds.{Any-from_list_any, list_any_at}
use Rattle.std.proofs.lemmas.List.Sums.{AllPass-from_list_all, list_all-from_AllPass}
use Rattle.kr_config.specs.declared.class.Class.{Class}
use Rattle.kr_config.specs.declared.class.Class.TheVariants.{Rest}
use Rattle.kr_config.specs.declared.class_index.ClassPlace.{ClassPlace}
use Rattle.kr_config.specs.Kept.{ConfigEntry}
use Rattle.kr_config.specs.Lists.{class_list}
use Rattle.kr_config.specs.Classes.{class_cmp, classes_in}
use Rattle.kr_config.specs.inner.ClassIndexes.{class_at, entry_list, ascend, has_class, are_classes_of}
use Rattle.kr_config.specs.inner.ClassIndexes.{lists_by_place, lists_by_class, IsIndexOf}
use Rattle.kr_config.proofs.ClassSearches.{same_class, equal}
use Rattle.kr_config.proofs.Inversions.{both, left, right}
use Rattle.kr_config.proofs.Nexts.{below}
use Rattle.kr_config.proofs.Orders.{class_total}

-- ---- the order

all_less : (class : Class) (classes : List Class)
    → AllByRecursion (λ other. class_cmp class other ≡ Less) classes
    → list_all (λ other. is_lt (class_cmp class other)) classes ≡ true
all_less class [] all = refl
all_less class (c ∷ classes) all =
    both (is_lt (class_cmp class c)) (list_all (λ other. is_lt (class_cmp class other)) classes)
    (ap is_lt all.0) (all_less class classes all.1)

less_all : (class : Class) (classes : List Class)
    → list_all (λ other. is_lt (class_cmp class other)) classes ≡ true
    → AllByRecursion (λ other. class_cmp class other ≡ Less) classes
less_all class [] h = tt
less_all class (c ∷ classes) h =
    let rest = list_all (λ other. is_lt (class_cmp class other)) classes in (
      below (class_cmp class c) (left (is_lt (class_cmp class c)) rest h),
      less_all class classes (right (is_lt (class_cmp class c)) rest h),
    )

ascend_true : (classes : List Class) → IsStrictlySortedBy class_cmp classes
    → ascend classes ≡ true
unfolding IsStrictlySortedBy
ascend_true [] s = refl
ascend_true (c ∷ classes) s =
    both (list_all (λ other. is_lt (class_cmp c other)) classes) (ascend classes)
    (all_less c classes s.0) (ascend_true classes s.1)

true_ascends : (classes : List Class) → ascend classes ≡ true
    → IsStrictlySortedBy class_cmp classes
unfolding IsStrictlySortedBy
true_ascends [] h = tt
true_ascends (c ∷ classes) h =
    let less = list_all (λ other. is_lt (class_cmp c other)) classes in (
      less_all c classes (left less (ascend classes) h),
      true_ascends classes (right less (ascend classes) h),
    )

-- ---- the members

has_there : (classes : List Class) (class : Class) → Contains classes class
    → has_class classes class ≡ true
has_there classes class m =
    let test : Class → Bool = λ own. is_eq (class_cmp own class) in
    list_any_at test classes m.0 class m.1 (ap test m.2 ∙ ap is_eq (tied_itself class_total class))

there_has : (classes : List Class) (class : Class) → has_class classes class ≡ true
    → Contains classes class
there_has classes class h =
    let some = Any-from_list_any (λ own. is_eq (class_cmp own class)) classes h in
    subst (Contains classes)
    (same_class some.1 class (equal (class_cmp some.1 class) some.4)) (some.0, some.2, some.3)

all_there : (classes others : List Class) → ((c : Class) → Contains others c → Contains classes c)
    → list_all (has_class classes) others ≡ true
all_there classes others h = list_all-from_AllPass (has_class classes) others
    (All-weaker (Contains others) (λ c. has_class classes c ≡ true)
    (λ c m. has_there classes c (h c m)) others (All-contains_itself others))

there_all : (classes others : List Class) → list_all (has_class classes) others ≡ true
    → (c : Class) → Contains others c → Contains classes c
there_all classes others h c m = there_has classes c
    (All-contains (λ x. has_class classes x ≡ true) others c
    (AllPass-from_list_all (has_class classes) others h) m)

-- ---- the lists

same_maps : {X Y : Type 0} (f g : X → Y) (xs : List X) → All (λ x. f x ≡ g x) xs
    → map f xs ≡ map g xs
same_maps f g [] h = refl
same_maps f g (x ∷ xs) h = ap (λ y. y ∷ map f xs) (h 0 x (omega arith))
    ∙ ap (λ l. g x ∷ l) (same_maps f g xs (λ k d l. h (suc k) d (omega arith)))

maps_same : {X Y : Type 0} (f g : X → Y) (xs : List X) → map f xs ≡ map g xs
    → All (λ x. f x ≡ g x) xs
maps_same f g xs e k d l =
    sym (get_or-map f xs k d (f d) l) ∙ ap (λ ys. get_or ys k (f d)) e ∙ get_or-map g xs k d (f d) l

-- ---- the index

-- the classes of one settings
alone : (rows : List ConfigEntry) → Rest ∷ (classes_in rows ++ []) ≡ Rest ∷ classes_in rows
alone rows = ap (λ l. Rest ∷ l) (append-nil (classes_in rows))

pub are_classes : (rows : List ConfigEntry) (index : List ClassPlace) → IsIndexOf rows index
    → are_classes_of rows (map class_at index) ≡ true
are_classes rows index indexed =
    let classes : List Class = map class_at index in
    let told : List Class = Rest ∷ classes_in rows in
    both (ascend classes && list_all (has_class told) classes) (list_all (has_class classes) told)
    (both (ascend classes) (list_all (has_class told) classes)
    (ascend_true classes indexed.table.ascends)
    (all_there told classes
    (λ c m. subst (λ l. Contains l c) (alone rows) ((indexed.table.members c).0 m))))
    (all_there classes told
    (λ c m. (indexed.table.members c).1 (subst (λ l. Contains l c) (sym (alone rows)) m)))

pub are_listed : (rows : List ConfigEntry) (index : List ClassPlace) → IsIndexOf rows index
    → lists_by_place rows index ≡ lists_by_class rows index
are_listed rows index indexed =
    same_maps (λ (own : ClassPlace). entry_list rows own.entry)
    (λ own. class_list rows own.class) index indexed.lists

pub indexed : (rows : List ConfigEntry) (index : List ClassPlace)
    → are_classes_of rows (map class_at index) ≡ true
    → lists_by_place rows index ≡ lists_by_class rows index → IsIndexOf rows index
indexed rows index told listed =
    let classes : List Class = map class_at index in
    let all : List Class = Rest ∷ classes_in rows in
    let two = left (ascend classes && list_all (has_class all) classes)
    (list_all (has_class classes) all) told in
    let from = there_all all classes
    (right (ascend classes) (list_all (has_class all) classes) two) in
    let to = there_all classes all
    (right (ascend classes && list_all (has_class all) classes) (list_all (has_class classes) all)
    told) in
    record {
      table = record {
        ascends = true_ascends classes
            (left (ascend classes) (list_all (has_class all) classes) two);
        members = λ c. (
          λ m. subst (λ l. Contains l c) (sym (alone rows)) (from c m),
          λ m. to c (subst (λ l. Contains l c) (alone rows) m),
        );
      };
      lists = maps_same (λ (own : ClassPlace). entry_list rows own.entry)
          (λ own. class_list rows own.class) index listed;
    }
