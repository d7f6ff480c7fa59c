-- The index of entries: how it is made, and that its places have the lists of classes.
use Rattle.std.proofs.Common.{◌≡◌, ℕ, zero, suc, ◌+◌, ◌<◌, ◌≤◌, Bool, true, false, List, [], ◌∷◌}
use Rattle.std.proofs.Common.{◌++◌, length, get_or, take, drop, map, All, Contains, Option, refl, sym}
use Rattle.std.proofs.Common.{ap, subst, ◌∙◌, ◌↔◌, arith, append-nil}
use Rattle.std.specs.List.{list_any, flat_map}
use Rattle.std.specs.List.Sorted.{IsStrictlySortedBy}
use Rattle.std.proofs.lemmas.List.{map-append, take_all, length-map, get_or-map}
use Rattle.std.proofs.lemmas.List.Elements.{All-append, All-cons, All-nil}
use Rattle.kr_config.specs.declared.class.Class.{Class}
use Rattle.kr_config.specs.declared.class.Class.TheVariants.{Exact, Group, Rest}
use Rattle.kr_config.specs.declared.class_index.ClassPlace.{ClassPlace}
use Rattle.kr_config.specs.declared.settings.Entry.{Entry}
use Rattle.kr_config.specs.declared.who.Who.{Who}
use Rattle.kr_config.specs.declared.who.Who.TheVariants.{Identity}
use Rattle.kr_config.specs.Patterns.{resource_group}
use Rattle.kr_config.specs.Kept.{ConfigEntry, entry_lists, rows_of}
use Rattle.kr_config.specs.Lists.{first_list, class_list}
use Rattle.kr_config.specs.Classes.{class_cmp, classes_in, IsTableOf, is_exact, is_group}
use Rattle.kr_config.specs.Nexts.{IsNextClass}
use Rattle.kr_config.specs.inner.ClassIndexes.{class_at, covers_class, entry_list, IsListed, IsIndexOf}
use Rattle.kr_config.specs.inner.ClassIndexes.{ArePlaces, IsSearchable, IsAt, IsAbsent, IsEntryOf}
use Rattle.kr_config.proofs.ClassTables.{table_new, table_added, exact_widens, group_narrows, known_class}
use Rattle.kr_config.proofs.FirstLists.{first_found, first_none}
use Rattle.kr_config.proofs.ListParts.{here, take_at_more}
use Rattle.kr_config.proofs.Narrowing.{known_in, same_least}
use Rattle.kr_config.proofs.Places.{exact_is, group_is}

-- ---- the place of a class's list

pub by_test : (rows : List ConfigEntry) (class : Class)
    → class_list rows class ≡ first_list (covers_class class) rows
by_test rows (Exact text) = refl
by_test rows other = refl

pub first_begin : (entries : List Entry) (class : Class)
    → class_list (rows_of entries) class
    ≡ first_list (covers_class class) (rows_of (drop 0 entries))
first_begin entries class = by_test (rows_of entries) class

pub entry_at : (entries : List Entry) (i : ℕ) (e : Entry) → i < length entries
    → e ≡ get_or entries i e → entry_list (rows_of entries) i ≡ e.providers.0
entry_at [] i e h is = absurd (omega arith)
entry_at (x ∷ entries) zero e h is = ap (λ (own : Entry). own.providers.0) (sym is)
entry_at (x ∷ entries) (suc i) e h is = entry_at entries i e (omega arith) is

pub list_here : (entries slice : List Entry) (place : ℕ) (e : Entry) (list : List Who)
    → slice ≡ entries → place < length slice → e ≡ get_or slice place e
    → list ≡ (get_or slice place e).providers.0 → list ≡ entry_list (rows_of entries) place
list_here entries slice place e list same h is own =
    own ∙ ap (λ (o : Entry). o.providers.0) (sym is) ∙ sym (entry_at slice place e h is)
    ∙ ap (λ es. entry_list (rows_of es) place) same

none_at : (rows : List ConfigEntry) (place : ℕ) → length rows ≤ place → entry_list rows place ≡ Identity ∷ []
none_at [] place h = refl
none_at (row ∷ rows) zero h = absurd (omega arith)
none_at (row ∷ rows) (suc place) h = none_at rows place (omega arith)

pub past : (entries : List Entry) (place : ℕ) → length entries ≤ place
    → entry_list (rows_of entries) place ≡ Identity ∷ []
past entries place h =
    none_at (rows_of entries) place (omega (arith, h, length-map entries entry_lists))

pub first_here : (entries : List Entry) (class : Class) (i : ℕ) (e : Entry) → i < length entries
    → e ≡ get_or entries i e → list_any (covers_class class) e.patterns.0 ≡ true
    → class_list (rows_of entries) class
    ≡ first_list (covers_class class) (rows_of (drop i entries))
    → entry_list (rows_of entries) i ≡ class_list (rows_of entries) class
first_here entries class i e h is some left =
    entry_at entries i e h is ∙ sym (left ∙ first_found (covers_class class) entries i e h is some)

pub first_nowhere : (entries : List Entry) (class : Class) (i : ℕ) → length entries ≤ i
    → class_list (rows_of entries) class
    ≡ first_list (covers_class class) (rows_of (drop i entries))
    → entry_list (rows_of entries) (length entries) ≡ class_list (rows_of entries) class
first_nowhere entries class i h left =
    past entries (length entries) (omega arith)
    ∙ sym (left ∙ first_none (covers_class class) entries i h)

-- ---- the index, one class more

pub places_begin : (rows : List ConfigEntry) (classes : List Class) (index : List ClassPlace) → index ≡ []
    → ArePlaces rows (take 0 classes) index
places_begin rows classes index none = record {
  each = ap (map class_at) none;
  lists = subst (All (IsListed rows)) (sym none) (All-nil (IsListed rows));
}

pub places_more : (rows : List ConfigEntry) (classes : List Class) (i : ℕ) (class copy : Class)
    (index new : List ClassPlace) (entry : ℕ) → ArePlaces rows (take i classes) index
    → i < length classes → class ≡ get_or classes i class → copy ≡ class
    → entry_list rows entry ≡ class_list rows class
    → new ≡ index ++ record { class = copy; entry = entry } ∷ []
    → ArePlaces rows (take (i + 1) classes) new
places_more rows classes i class copy index new entry was h is same at pushed =
    let own : ClassPlace = record { class = copy; entry = entry } in
    record {
      each = ap (map class_at) pushed ∙ map-append class_at index (own ∷ [])
          ∙ ap (λ l. l ++ copy ∷ []) was.each
          ∙ ap (λ c. take i classes ++ c ∷ []) same ∙ sym (take_at_more classes i class h is);
      lists = subst (All (IsListed rows)) (sym pushed)
          (All-append (IsListed rows) index (own ∷ []) was.lists
          (All-cons (IsListed rows) own [] (at ∙ sym (ap (class_list rows) same))
          (All-nil (IsListed rows))));
    }

pub places_end : (rows : List ConfigEntry) (classes : List Class) (i : ℕ) (index : List ClassPlace)
    → ArePlaces rows (take i classes) index → length classes ≤ i → ArePlaces rows classes index
places_end rows classes i index was h =
    subst (λ l. ArePlaces rows l index) (take_all i classes h) was

pub index_made : (rows : List ConfigEntry) (fresh classes : List Class) (index : List ClassPlace)
    → fresh ≡ Rest ∷ classes_in rows → IsStrictlySortedBy class_cmp classes
    → ((class : Class) → Contains classes class ↔ Contains fresh class)
    → ArePlaces rows classes index → IsIndexOf rows index
index_made rows fresh classes index is ascends same places = record {
  table = subst (IsTableOf (rows ∷ [])) (sym places.each)
      (table_added [] rows (Rest ∷ []) (classes_in rows) classes table_new refl ascends
      (subst (λ l. (class : Class) → Contains classes class ↔ Contains l class) is same));
  lists = places.lists;
}

-- ---- what the index tells

pub searchable : (rows : List ConfigEntry) (index : List ClassPlace) → IsIndexOf rows index
    → IsSearchable index
searchable rows index indexed = record {
  ascends = indexed.table.ascends;
  rest = (indexed.table.members Rest).1 (here Rest (flat_map classes_in (rows ∷ [])));
}

pub next_of_index : (rows : List ConfigEntry) (index : List ClassPlace) (after next : Option Class)
    → IsIndexOf rows index → IsNextClass (map class_at index) after next
    → IsNextClass (Rest ∷ classes_in rows) after next
next_of_index rows index after next indexed h =
    subst (λ l. IsNextClass (Rest ∷ l) after next) (append-nil (classes_in rows))
    (same_least (map class_at index) (Rest ∷ flat_map classes_in (rows ∷ [])) after next
    indexed.table.members h)

abbrev some_place : ClassPlace
some_place = record { class = Rest; entry = 0 }

pub listed : (rows : List ConfigEntry) (index : List ClassPlace) (class : Class) (entry : ℕ)
    → IsIndexOf rows index → IsEntryOf index class entry
    → entry_list rows entry ≡ class_list rows class
listed rows index class entry indexed own =
    let place = own.0 in
    sym (ap (entry_list rows) (own.2 some_place))
    ∙ indexed.lists place some_place (own.1).0
    ∙ ap (class_list rows) ((own.1).1 some_place)

pub placed_in : (index : List ClassPlace) (class : Class) → Contains (map class_at index) class
    → (place : ℕ) × IsAt index class place
placed_in index class m =
    let within : m.0 < length index = omega (arith, m.1, length-map index class_at) in (
      m.0,
      (within, λ other. sym (get_or-map class_at index m.0 other class within) ∙ m.2),
    )

not_in : (test : Class → Bool) (index : List ClassPlace) (class : Class)
    → ((c : Class) → test c ≡ true → c ≡ class) → IsAbsent index class
    → list_any test (map class_at index) ≡ false
not_in test index class is absent = by (list_any test (map class_at index)) refl
  where
    by : (v : Bool) → list_any test (map class_at index) ≡ v
        → list_any test (map class_at index) ≡ false
    by true t = absurd (
        let at = placed_in index class (known_in test class (map class_at index) is t) in absent at.0 at.1)
    by false f = f

known : (rows : List ConfigEntry) (index : List ClassPlace) → IsIndexOf rows index → (class : Class)
    → Contains (classes_in rows) class → Contains (map class_at index) class
known rows index indexed =
    known_class (rows ∷ []) (map class_at index) rows indexed.table (here rows [])

-- an exact class that isn't told apart has its group's list, and such a group that of the rest
pub exact_to_group : (rows : List ConfigEntry) (index : List ClassPlace) (text : List ℕ)
    → IsIndexOf rows index → IsAbsent index (Exact text)
    → class_list rows (Exact text) ≡ class_list rows (Group (resource_group text))
exact_to_group rows index text indexed absent =
    exact_widens (map class_at index) text
    (not_in (is_exact text) index (Exact text) (exact_is text) absent) rows
    (known rows index indexed)

pub group_to_rest : (rows : List ConfigEntry) (index : List ClassPlace) (group : List ℕ)
    → IsIndexOf rows index → IsAbsent index (Group group)
    → class_list rows (Group group) ≡ class_list rows Rest
group_to_rest rows index group indexed absent =
    group_narrows (map class_at index) group
    (not_in (is_group group) index (Group group) (group_is group) absent) rows
    (known rows index indexed)

pub rest_there : (index : List ClassPlace) → IsSearchable index → IsAbsent index Rest → ⊥
rest_there index ordered absent =
    let at = placed_in index Rest ordered.rest in absent at.0 at.1
