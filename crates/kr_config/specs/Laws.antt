-- Laws of the definitions.
use Rattle.std.specs.Prelude.{◌≡◌, ℕ, ◌++◌, ◌∷◌, List, Option, Result, Ok, Contains, MatchResult}
use Rattle.kr_config.specs.declared.refusal.ConfigNo.{ConfigNo}
use Rattle.kr_config.specs.declared.refusal.ConfigErr.{ConfigErr}
use Rattle.kr_config.specs.declared.refusal.ConfigErr.TheVariants.{NoMemory}
use Rattle.kr_config.specs.declared.settings.Settings.{Settings}
use Rattle.kr_config.specs.declared.who.Who.{Who}
use Rattle.kr_config.specs.declared.class.Class.{Class}
use Rattle.kr_config.specs.declared.class.Class.TheVariants.{Rest}
use Rattle.std.specs.List.{flat_map}
use Rattle.kr_config.specs.Kept.{ConfigEntry, rows_of}
use Rattle.kr_config.specs.Lists.{class_list}
use Rattle.kr_config.specs.Classes.{class_cmp, IsTableOf, classes_in}
use Rattle.kr_config.specs.Nexts.{earlier, IsNextClass}
use Rattle.kr_config.specs.Meanings.{MeansConfig, ReadsSettings}
use Rattle.kr_config.specs.ClassEntries.{class_rows}

-- bytes mean one thing
abbrev pub OneMeaning : Type 0
OneMeaning = (bytes : List ℕ) (a b : Result (List ConfigEntry) ConfigNo) → MeansConfig bytes a
    → MeansConfig bytes b
    → a ≡ b

-- bytes mean something
abbrev pub SomeMeaning : Type 0
SomeMeaning = (bytes : List ℕ) → (rows : Result (List ConfigEntry) ConfigNo)
    × MeansConfig bytes rows

-- a class has in some settings, whichever they are, the list of a class that their table has
abbrev pub EachClassNarrows : Type 0
EachClassNarrows = (added : List (List ConfigEntry)) (classes : List Class) (class : Class)
    → IsTableOf added classes
    → (kept : Class) × Contains classes kept
    × ((rows : List ConfigEntry) → Contains added rows → class_list rows class
    ≡ class_list rows kept)

-- what comes next among the classes that some settings tell apart is what comes next in their table
abbrev pub NextInTable : Type 0
NextInTable = (added : List (List ConfigEntry)) (classes : List Class) (after next : Option Class)
    → IsTableOf added classes
    → IsNextClass (Rest ∷ flat_map classes_in added) after next → IsNextClass classes after next

-- what comes next in two lists together is the first of what comes next in each
abbrev pub FirstOfBoth : Type 0
FirstOfBoth = (classes more : List Class) (after one other : Option Class)
    → IsNextClass classes after one → IsNextClass more after other
    → IsNextClass (classes ++ more) after (earlier class_cmp one other)

-- settings of an entry for each class of a table give at each of these classes its entry's list
abbrev pub EachClassItsEntry : Type 0
EachClassItsEntry = (added : List (List ConfigEntry)) (classes : List Class)
    (list : Class → List Who)
    (class : Class) → IsTableOf added classes → Contains classes class
    → class_list (class_rows list classes) class ≡ list class

-- and at any class the list of one of them, whose list all settings of the table have there too
abbrev pub EntriesNarrow : Type 0
EntriesNarrow = (added : List (List ConfigEntry)) (classes : List Class) (list : Class → List Who)
    (class : Class) → IsTableOf added classes
    → (kept : Class) × Contains classes kept
    × (class_list (class_rows list classes) class ≡ list kept)
    × ((rows : List ConfigEntry) → Contains added rows → class_list rows class
    ≡ class_list rows kept)

-- where a text means settings, reading it gives these settings or wants memory
abbrev pub ReadsAsMeant : Type 0
ReadsAsMeant = (text : List ℕ) (rows : List ConfigEntry) (result : Result Settings ConfigErr)
    → MeansConfig text (Ok rows) → ReadsSettings (MeansConfig text) result
    → MatchResult result (λ settings. rows_of settings.entries.0 ≡ rows) (λ why. why ≡ NoMemory)
