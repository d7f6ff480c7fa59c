-- Laws of the definitions.
use Rattle.std.specs.Prelude.{◌≡◌, ◌↔◌, ℕ, IsTrue, List, Some, Contains}
use Rattle.kr_config.specs.declared.class.Class.{Class}
use Rattle.kr_config.specs.declared.who.Who.{Who}
use Rattle.kr_config.specs.Kept.{ConfigEntry, keeps}
use Rattle.kr_config.specs.Lists.{list_of, class_list}
use Rattle.kr_judge.specs.declared.need.Need.{Need}
use Rattle.kr_judge.specs.declared.verdict.Verdict.TheVariants.{Pass}
use Rattle.kr_judge.specs.Boards.{GenerationState}
use Rattle.kr_judge.specs.Verdicts.{first, verdict_of}
use Rattle.kr_plan.specs.Merges.{merge, wide_rows, turned_rows}
use Rattle.kr_plan.specs.Rollouts.{IsBetween}

-- at every class, whether or not the table has it, wide settings give the list of `from` and behind
-- it what else `to` has, and turned ones the same the other way round
abbrev pub MergesEachClass : Type 0
MergesEachClass = (from to : List ConfigEntry) (class : Class)
    → (class_list (wide_rows from to) class ≡ merge (class_list from class) (class_list to class))
    × (class_list (turned_rows from to) class ≡ merge (class_list to class) (class_list from class))

-- two lists merged either way have the members of both
abbrev pub MergesMembers : Type 0
MergesMembers = (one other : List Who) (who : Who)
    → Contains (merge one other) who ↔ Contains (merge other one) who

-- while each current generation gives what `from` or the wide settings give, a replica may take up
-- the wide settings
abbrev pub WidePasses : Type 0
WidePasses = (from to : List ConfigEntry) (needs : List Need) (generations : List GenerationState)
    (replica : ℕ) → IsTrue (keeps from)
    → IsBetween from (wide_rows from to) needs generations replica
    → verdict_of needs generations replica (wide_rows from to) ≡ Pass

-- while each gives what the wide or the turned ones give, it may take up the turned ones
abbrev pub TurnedPasses : Type 0
TurnedPasses = (from to : List ConfigEntry) (needs : List Need) (generations : List GenerationState)
    (replica : ℕ) → IsBetween (wide_rows from to) (turned_rows from to) needs generations replica
    → verdict_of needs generations replica (turned_rows from to) ≡ Pass

-- while each gives what the turned ones or `to` give, and what is stored needs the provider by
-- which `to` writes its resource, it may take up `to`
abbrev pub TargetPasses : Type 0
TargetPasses = (from to : List ConfigEntry) (needs : List Need) (generations : List GenerationState)
    (replica : ℕ) → IsTrue (keeps to)
    → IsBetween (turned_rows from to) to needs generations replica
    → ((need : Need) → Contains needs need → first (list_of to need.resource) ≡ Some need.who)
    → verdict_of needs generations replica to ≡ Pass
