-- Laws of what a core's board counts: its kept lists are those that a scan of the state would give.
use Rattle.std.specs.Prelude.{◌↔◌, ℕ, List, Contains}
use Rattle.std.specs.Cmp.Lexicographic.{slice_cmp}
use Rattle.std.specs.List.Sorted.{IsStrictlySortedBy}
use Rattle.std.specs.Ordering.{nat_cmp}
use Rattle.kr_config.specs.declared.who.Who.{Who}
use Rattle.kr_judge.specs.Boards.{BoardState}
use Rattle.kr_judge.specs.Scans.{live_numbers, paths_with}
use Rattle.kr_rollout.specs.declared.opening.Entry.{Entry}
use Rattle.kr_rollout.specs.declared.opening.Opening.{Opening}
use Rattle.kr_rollout.specs.Histories.{state_of, IsLegal}
use Rattle.kr_rollout.specs.Openings.{board}
use Rattle.kr_rollout.specs.States.{State, IsLiveNumber}
use Rattle.kr_history.specs.LackLaws.{IsStoredAt}

-- the numbers of the live generations, in their order, each once
pub record AreLiveNumbers (st : State) (numbers : List ℕ) : Type 0 where
  pub ascending : IsStrictlySortedBy nat_cmp numbers
  pub each : (number : ℕ) → Contains numbers number ↔ IsLiveNumber st number

-- the paths of the objects of the resource that live and need the provider, in their order, each
-- once
pub record ArePathsNeeding (st : State) (resource : List ℕ) (who : Who) (paths : List (List ℕ))
    : Type 0 where
  pub ascending : IsStrictlySortedBy (slice_cmp nat_cmp) paths
  pub each : (path : List ℕ) → Contains paths path ↔ IsStoredAt st path resource who

-- what `Board::live` and `Board::paths` give of the board are these; `PathSet::len` is how many
pub record CountsAll (st : State) (kept : BoardState) : Type 0 where
  pub live : AreLiveNumbers st (live_numbers kept.generations)
  pub paths : (resource : List ℕ) (who : Who)
      → ArePathsNeeding st resource who (paths_with kept.proposal resource who kept.needs)

-- so it is after each legal history
abbrev pub BoardCounts : Type 0
BoardCounts = (o : Opening) (history : List Entry) → IsLegal o history
    → CountsAll (state_of o history) (board o (state_of o history))
