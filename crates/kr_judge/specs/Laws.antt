-- Laws of the definitions.
use Rattle.std.specs.Prelude.{◌≡◌, ◌↔◌, ℕ, IsTrue, if◌then◌else◌, List, None, Some, Contains}
use Rattle.std.specs.List.{slice_get}
use Rattle.std.specs.List.Sorted.{IsStrictlySortedBy}
use Rattle.std.specs.Option.{IsSomeAnd}
use Rattle.std.specs.Ordering.{nat_cmp}
use Rattle.std.specs.Str.{bytes_eq}
use Rattle.kr_config.specs.declared.class.Class.{Class}
use Rattle.kr_config.specs.declared.who.Who.{Who}
use Rattle.kr_config.specs.Kept.{ConfigEntry}
use Rattle.kr_config.specs.Classes.{IsTableOf}
use Rattle.kr_config.specs.Nexts.{name_cmp}
use Rattle.kr_judge.specs.declared.need.Need.{Need}
use Rattle.kr_judge.specs.declared.verdict.Verdict.TheVariants.{Pass}
use Rattle.kr_judge.specs.Boards.{GenerationState, is_live, AreByPath, need_at, set_need, drop_need}
use Rattle.kr_judge.specs.Providers.{has}
use Rattle.kr_judge.specs.Scans.{paths_for, live_numbers}
use Rattle.kr_judge.specs.Tables.{table_of}
use Rattle.kr_judge.specs.Fits.{FitsBoard}
use Rattle.kr_judge.specs.Verdicts.{verdict_of}

-- the verdict is `Pass` exactly where the new settings and the others read all that they must
abbrev pub PassesExactly : Type 0
PassesExactly = (needs : List Need) (generations : List GenerationState) (replica : ℕ)
    (rows : List ConfigEntry)
    → (verdict_of needs generations replica rows ≡ Pass) ↔ FitsBoard needs generations replica rows

-- the classes of some settings are their table, and no other classes are
abbrev pub TableComputes : Type 0
TableComputes = (added : List (List ConfigEntry)) (classes : List Class)
    → IsTableOf added classes ↔ (classes ≡ table_of added)

-- a list has a provider where it is one of its members, its secret included
abbrev pub HasMembers : Type 0
HasMembers = (providers : List Who) (who : Who)
    → IsTrue (has providers who) ↔ Contains providers who

-- needs stay in the order of their paths
abbrev pub StaySorted : Type 0
StaySorted = (needs : List Need) → AreByPath needs
    → ((need : Need) → AreByPath (set_need needs need))
    × ((path : List ℕ) → AreByPath (drop_need needs path))

-- a need that was set is what is needed at its path, and elsewhere all is as before
abbrev pub SetAtPath : Type 0
SetAtPath = (needs : List Need) (need : Need) (path : List ℕ)
    → need_at (set_need needs need) path
    ≡ (if bytes_eq need.path path then Some need else need_at needs path)

-- where a need was dropped nothing is needed, and elsewhere all is as before
abbrev pub DropAtPath : Type 0
DropAtPath = (needs : List Need) (gone path : List ℕ) → AreByPath needs
    → need_at (drop_need needs gone) path
    ≡ (if bytes_eq gone path then None else need_at needs path)

-- the paths that need a provider in the list of a resource are those at which just that is needed,
-- in order, each once
abbrev pub PathsAreNeeds : Type 0
PathsAreNeeds = (needs : List Need) (resource : List ℕ) (who : Who) → AreByPath needs
    → IsStrictlySortedBy name_cmp (paths_for resource who needs)
    × ((path : List ℕ) → Contains (paths_for resource who needs) path
    ↔ (need_at needs path ≡ Some (record { path = path; resource = resource; who = who })))

-- the live numbers are those of the live generations, in order, each once
abbrev pub NumbersAreLive : Type 0
NumbersAreLive = (generations : List GenerationState)
    → IsStrictlySortedBy nat_cmp (live_numbers generations)
    × ((number : ℕ) → Contains (live_numbers generations) number
    ↔ IsSomeAnd (slice_get generations number) (λ generation. IsTrue (is_live generation)))
