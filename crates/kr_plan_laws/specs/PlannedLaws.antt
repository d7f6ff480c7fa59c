-- No reload of a plan is refused, whatever the replicas have done before.
use Rattle.std.specs.Prelude.{◌≡◌, ℕ, IsTrue, List, Contains, Some}
use Rattle.kr_config.specs.Kept.{ConfigEntry, keeps}
use Rattle.kr_config.specs.Lists.{list_of}
use Rattle.kr_judge.specs.declared.need.Need.{Need}
use Rattle.kr_judge.specs.declared.verdict.Verdict.TheVariants.{Pass}
use Rattle.kr_judge.specs.Verdicts.{first}
use Rattle.kr_plan.specs.Merges.{wide_rows, turned_rows}
use Rattle.kr_rollout.specs.declared.opening.Entry.{Entry}
use Rattle.kr_rollout.specs.declared.opening.Opening.{Opening}
use Rattle.kr_rollout.specs.Histories.{state_of, IsLegal}
use Rattle.kr_rollout.specs.States.{verdict_on}
use Rattle.kr_plan_laws.specs.PlannedStates.{IsMidway}

-- in a legal history the state fits. Where besides each current generation gives what `from` or the
-- wide settings give, the verdict on the wide ones is `Pass`
abbrev pub WideIsNotRefused : Type 0
WideIsNotRefused = (o : Opening) (history : List Entry) (from to : List ConfigEntry) (replica : ℕ)
    → IsLegal o history → IsTrue (keeps from)
    → IsMidway from (wide_rows from to) (state_of o history) replica
    → verdict_on (state_of o history) replica (wide_rows from to) ≡ Pass

-- where each gives what the wide or the turned ones give, that on the turned ones
abbrev pub TurnedIsNotRefused : Type 0
TurnedIsNotRefused = (o : Opening) (history : List Entry) (from to : List ConfigEntry) (replica : ℕ)
    → IsLegal o history
    → IsMidway (wide_rows from to) (turned_rows from to) (state_of o history) replica
    → verdict_on (state_of o history) replica (turned_rows from to) ≡ Pass

-- and where each gives what the turned ones or `to` give, and the provider of each object is the
-- one by which `to` writes its resource, that on `to`
abbrev pub TargetIsNotRefused : Type 0
TargetIsNotRefused = (o : Opening) (history : List Entry) (from to : List ConfigEntry) (replica : ℕ)
    → IsLegal o history → IsTrue (keeps to)
    → IsMidway (turned_rows from to) to (state_of o history) replica
    → ((need : Need) → Contains (state_of o history).needs need
    → first (list_of to need.resource) ≡ Some need.who)
    → verdict_on (state_of o history) replica to ≡ Pass
