-- Rollouts that follow each other, on boards.
use Rattle.std.specs.Prelude.{◌≡◌, ℕ, zero, suc, ◌<◌, true, IsTrue, if◌then◌else◌, List}
use Rattle.std.specs.Prelude.{Contains, Some, map}
use Rattle.std.specs.List.{list_any}
use Rattle.kr_config.specs.declared.class.Class.{Class}
use Rattle.kr_config.specs.Kept.{ConfigEntry, keeps}
use Rattle.kr_config.specs.Lists.{list_of, class_list}
use Rattle.kr_judge.specs.declared.need.Need.{Need}
use Rattle.kr_judge.specs.declared.verdict.Verdict.TheVariants.{Pass}
use Rattle.kr_judge.specs.Boards.{GenerationState, is_replica_current, given_to}
use Rattle.kr_judge.specs.Lacks.{IsLiveIn}
use Rattle.kr_judge.specs.LiveFits.{AreFit}
use Rattle.kr_judge.specs.Verdicts.{first, verdict_of}
use Rattle.kr_plan.specs.Merges.{wide_rows, turned_rows}

-- What a plan begins from: all that is stored and live fits; only current generations are held; the
-- replicas below a number are in, and no others; and each gives at every class the list of these
-- settings.
pub record AllGive (rows : List ConfigEntry) (replicas : ℕ) (needs : List Need)
    (generations : List GenerationState) : Type 0 where
  pub fit : AreFit (IsLiveIn generations) needs
  pub held : (own : GenerationState) → Contains generations own → 0 < own.holders
      → own.current ≡ true
  pub are_in : (replica : ℕ) → replica < replicas
      → IsTrue (list_any (is_replica_current replica) generations)
  pub gives : (own : GenerationState) → Contains generations own → own.current ≡ true
      → (own.replica < replicas)
      × ((class : Class) → class_list own.rows class ≡ class_list rows class)

-- what isn't current any more is let go
abbrev pub unheld : GenerationState → GenerationState
unheld generation = record generation {
  holders = if generation.current then generation.holders else 0;
}

abbrev pub let_go : List GenerationState → List GenerationState
let_go generations = map unheld generations

-- so many replicas, from the first on, have taken up the settings, each once the one before it has,
-- and what each had before is held no more
abbrev pub all_given : List ConfigEntry → ℕ → List GenerationState → List GenerationState
all_given rows zero generations = generations
all_given rows (suc replica) generations =
    let_go (given_to replica rows (all_given rows replica generations))

-- the board once all replicas have done all phases
abbrev pub rolled_out : (from to : List ConfigEntry) → ℕ → List GenerationState
    → List GenerationState
rolled_out from to replicas generations = all_given to replicas
    (all_given (turned_rows from to) replicas
    (all_given (wide_rows from to) replicas generations))

-- Where a plan's moves are done from a board on which all give `from`, and what the rewrite leaves
-- needs the providers by which `to` writes, all give `to` at the end: a plan from `to` may begin.
abbrev pub RoundsFollow : Type 0
RoundsFollow = (from to : List ConfigEntry) (replicas : ℕ) (needs rewritten : List Need)
    (generations : List GenerationState) → IsTrue (keeps from) → IsTrue (keeps to)
    → AllGive from replicas needs generations
    → ((need : Need) → Contains rewritten need → first (list_of to need.resource) ≡ Some need.who)
    → AllGive to replicas rewritten (rolled_out from to replicas generations)

-- And no verdict on the way refuses: once the replicas before one have taken up the settings of a
-- phase, and the others give those of the phase before, its own verdict is `Pass`.
abbrev pub PassesOn : List ConfigEntry → ℕ → List Need → List GenerationState → Type 0
PassesOn rows replicas needs generations = (replica : ℕ) → replica < replicas
    → verdict_of needs (all_given rows replica generations) replica rows ≡ Pass

abbrev pub RoundsPass : Type 0
RoundsPass = (from to : List ConfigEntry) (replicas : ℕ) (needs rewritten : List Need)
    (generations : List GenerationState) → IsTrue (keeps from) → IsTrue (keeps to)
    → AllGive from replicas needs generations
    → ((need : Need) → Contains rewritten need → first (list_of to need.resource) ≡ Some need.who)
    → PassesOn (wide_rows from to) replicas needs generations
    × PassesOn (turned_rows from to) replicas needs
    (all_given (wide_rows from to) replicas generations)
    × PassesOn to replicas rewritten
    (all_given (turned_rows from to) replicas
    (all_given (wide_rows from to) replicas generations))
