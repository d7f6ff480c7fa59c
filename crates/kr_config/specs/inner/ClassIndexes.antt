-- The index of settings: the classes that their entries tell apart in order, each with the place of
-- its list, and what a search in it finds.
use Rattle.std.specs.Prelude.{◌≡◌, ◌&&◌, ℕ, zero, suc, ◌<◌, ◌≤◌, Bool, true, false, List, [], ◌∷◌, length}
use Rattle.std.specs.Prelude.{⊤, map, All, Contains, Option, Result, Ok, Err}
use Rattle.std.specs.List.{AllWithin, slice_index_or, list_all, list_any}
use Rattle.std.specs.List.Sorted.{IsStrictlySortedBy}
use Rattle.std.specs.Ordering.{is_lt, is_eq}
use Rattle.std.specs.declared.cmp.Ordering.TheVariants.{Less}
use Rattle.kr_config.specs.declared.class.Class.{Class}
use Rattle.kr_config.specs.declared.class.Class.TheVariants.{Exact, Group, Rest}
use Rattle.kr_config.specs.declared.class_index.ClassPlace.{ClassPlace}
use Rattle.kr_config.specs.declared.pattern.Pattern.{Pattern}
use Rattle.kr_config.specs.declared.who.Who.{Who}
use Rattle.kr_config.specs.declared.who.Who.TheVariants.{Identity}
use Rattle.kr_config.specs.Patterns.{matches, covers_group, covers_rest}
use Rattle.kr_config.specs.Kept.{ConfigEntry}
use Rattle.kr_config.specs.Lists.{class_list}
use Rattle.kr_config.specs.Classes.{class_cmp, classes_in, IsTableOf}
use Rattle.kr_config.specs.Nexts.{comes_after}

abbrev pub class_at : ClassPlace → Class
class_at place = place.class

-- a pattern that speaks of all of a class
abbrev pub covers_class : Class → Pattern → Bool
covers_class (Exact text) pattern = matches pattern text
covers_class (Group group) pattern = covers_group pattern group
covers_class Rest pattern = covers_rest pattern

-- the providers of the entry at a place, or identity alone behind the last
abbrev pub entry_list : List ConfigEntry → ℕ → List Who
entry_list [] place = Identity ∷ []
entry_list (row ∷ rows) zero = row.providers
entry_list (row ∷ rows) (suc place) = entry_list rows place

abbrev pub IsListed : List ConfigEntry → ClassPlace → Type 0
IsListed rows own = entry_list rows own.entry ≡ class_list rows own.class

-- each comes before those behind it
abbrev pub ascend : List Class → Bool
ascend [] = true
ascend (class ∷ classes) = list_all (λ other. is_lt (class_cmp class other)) classes
    && ascend classes

abbrev pub has_class : List Class → Class → Bool
has_class classes class = list_any (λ own. is_eq (class_cmp own class)) classes

-- in order those that the entries tell apart, and no others
abbrev pub are_classes_of : List ConfigEntry → List Class → Bool
are_classes_of rows classes = ascend classes
    && list_all (has_class (Rest ∷ classes_in rows)) classes
    && list_all (has_class classes) (Rest ∷ classes_in rows)

-- the lists by the places, and those of the classes
abbrev pub lists_by_place : List ConfigEntry → List ClassPlace → List (List Who)
lists_by_place rows index = map (λ own. entry_list rows own.entry) index

abbrev pub lists_by_class : List ConfigEntry → List ClassPlace → List (List Who)
lists_by_class rows index = map (λ own. class_list rows own.class) index

-- classes with the places of their lists
pub record ArePlaces (rows : List ConfigEntry) (classes : List Class) (index : List ClassPlace)
    : Type 0 where
  pub each : map class_at index ≡ classes
  pub lists : All (IsListed rows) index

-- the table of the entries, with the places of the classes' lists
pub record IsIndexOf (rows : List ConfigEntry) (index : List ClassPlace) : Type 0 where
  pub table : IsTableOf (rows ∷ []) (map class_at index)
  pub lists : All (IsListed rows) index

-- in order, and the rest is there
pub record IsSearchable (index : List ClassPlace) : Type 0 where
  pub ascends : IsStrictlySortedBy class_cmp (map class_at index)
  pub rest : Contains (map class_at index) Rest

-- the class stands there
abbrev pub IsAt : List ClassPlace → Class → ℕ → Type 0
IsAt index class place = (place < length index)
    × ((other : ClassPlace) → (slice_index_or index place other).class ≡ class)

abbrev pub IsAbsent : List ClassPlace → Class → Type 0
IsAbsent index class = (place : ℕ) → IsAt index class place → ⊥

abbrev pub StandsAt : List ClassPlace → Class → ℕ → Bool → Type 0
StandsAt index class place true = IsAt index class place
StandsAt index class place false = ⊤

-- where a class stands, or else before which it belongs
abbrev pub IsPlaceOf : List ClassPlace → Class → Result ℕ ℕ → Type 0
IsPlaceOf index class (Ok place) = IsAt index class place
IsPlaceOf index class (Err place) = (place ≤ length index)
    × AllWithin (λ own. class_cmp own.class class ≡ Less) index 0 place
    × AllWithin (λ own. class_cmp class own.class ≡ Less) index place (length index)

-- so many don't come after a class
pub record IsPlaceAfter (index : List ClassPlace) (after : Option Class) (place : ℕ) : Type 0 where
  pub within : place ≤ length index
  pub none : AllWithin (λ own. comes_after after own.class ≡ false) index 0 place
  pub all : AllWithin (λ own. comes_after after own.class ≡ true) index place (length index)

-- the place of an entry that stands with the class
abbrev pub IsEntryOf : List ClassPlace → Class → ℕ → Type 0
IsEntryOf index class entry = (place : ℕ) × IsAt index class place
    × ((other : ClassPlace) → (slice_index_or index place other).entry ≡ entry)
