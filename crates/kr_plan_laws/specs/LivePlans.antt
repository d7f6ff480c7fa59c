-- A planned rollout by what is live: no reload of a round is refused, each entry keeps the round
-- under way, and where it is over the next may begin.
use Rattle.std.specs.Prelude.{◌≡◌, ℕ, IsTrue, List, [], ◌∷◌, ◌++◌}
use Rattle.kr_config.specs.Kept.{ConfigEntry, keeps}
use Rattle.kr_judge.specs.declared.verdict.Verdict.TheVariants.{Pass}
use Rattle.kr_plan.specs.Merges.{wide_rows, turned_rows}
use Rattle.kr_rollout.specs.declared.opening.Entry.{Entry}
use Rattle.kr_rollout.specs.declared.opening.Opening.{Opening}
use Rattle.kr_rollout.specs.Histories.{state_of, IsLegal}
use Rattle.kr_rollout.specs.States.{verdict_on}
use Rattle.kr_plan_laws.specs.PlannedStates.{IsMidway}
use Rattle.kr_plan_laws.specs.LiveStates.{HasReplica, IsUnderWay, GiveAs, BringsOnly}
use Rattle.kr_plan_laws.specs.LiveStates.{AreOfRound, IsOver, AllNew, IsNewer}
use Rattle.kr_plan_laws.specs.Settled.{AreSettled}

-- a state in the midst of a rollout in which only current configurations are held is one
abbrev pub MidwayIsUnderWay : Type 0
MidwayIsUnderWay = (o : Opening) (history : List Entry) (one other : List ConfigEntry)
    (replica : ℕ) → IsLegal o history → IsMidway one other (state_of o history) replica
    → IsUnderWay one other (state_of o history)

-- ---- verdicts. The replica may be in or join, and its settings give what the round's do

abbrev pub WideMayCome : Type 0
WideMayCome = (o : Opening) (history : List Entry) (from to rows : List ConfigEntry) (replica : ℕ)
    → IsLegal o history → IsTrue (keeps from)
    → IsUnderWay from (wide_rows from to) (state_of o history)
    → GiveAs (wide_rows from to) rows
    → verdict_on (state_of o history) replica rows ≡ Pass

abbrev pub TurnedMayCome : Type 0
TurnedMayCome = (o : Opening) (history : List Entry) (from to rows : List ConfigEntry)
    (replica : ℕ) → IsLegal o history
    → IsUnderWay (wide_rows from to) (turned_rows from to) (state_of o history)
    → GiveAs (turned_rows from to) rows
    → verdict_on (state_of o history) replica rows ≡ Pass

-- where besides each object that is stored needs the provider by which `to` writes
abbrev pub TargetMayCome : Type 0
TargetMayCome = (o : Opening) (history : List Entry) (from to rows : List ConfigEntry)
    (replica : ℕ) → IsLegal o history → IsTrue (keeps to)
    → IsUnderWay (turned_rows from to) to (state_of o history)
    → AreSettled to (state_of o history) → GiveAs to rows
    → verdict_on (state_of o history) replica rows ≡ Pass

-- ---- rounds

-- each entry that brings no other settings, and leaves some replica in, keeps a round under way:
-- whatever is put, deleted, replaced, found, adopted and let go
abbrev pub EachEntryKeeps : Type 0
EachEntryKeeps = (o : Opening) (history : List Entry) (e : Entry) (one other : List ConfigEntry)
    → IsLegal o (history ++ e ∷ []) → IsUnderWay one other (state_of o history)
    → BringsOnly other (state_of o history) e.line.did
    → HasReplica (state_of o (history ++ e ∷ []))
    → IsUnderWay one other (state_of o (history ++ e ∷ []))

-- so do all of a round
abbrev pub RoundKeeps : Type 0
RoundKeeps = (o : Opening) (history round : List Entry) (one other : List ConfigEntry)
    → IsLegal o (history ++ round) → IsUnderWay one other (state_of o history)
    → AreOfRound other (state_of o history) round
    → IsUnderWay one other (state_of o (history ++ round))

-- and it is over once what is live has come since, where none but the round's settings came
abbrev pub RoundEnds : Type 0
RoundEnds = (o : Opening) (history round : List Entry) (other : List ConfigEntry)
    → IsLegal o (history ++ round) → AllNew other round
    → IsNewer (state_of o history) (state_of o (history ++ round))
    → IsOver other (state_of o (history ++ round))

-- a round to any settings may begin where one is over
abbrev pub NextMayBegin : Type 0
NextMayBegin = (o : Opening) (history : List Entry) (other next : List ConfigEntry)
    → HasReplica (state_of o history) → IsOver other (state_of o history)
    → IsUnderWay other next (state_of o history)
