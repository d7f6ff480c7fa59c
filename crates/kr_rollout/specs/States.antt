-- The state of a rollout.
use Rattle.std.specs.Prelude.{◌≡◌, ℕ, ◌+◌, ◌==◌, ◌⊎◌, Bool, false, List, [], ◌∷◌, get_or, count_by, Contains, Option, None, Some}
use Rattle.std.specs.List.{list_any}
use Rattle.std.specs.Option.{option_map}
use Rattle.kr_store.specs.declared.rows.LogRow.{LogRow}
use Rattle.kr_config.specs.Kept.{ConfigEntry}
use Rattle.kr_judge.specs.declared.need.Need.{Need}
use Rattle.kr_judge.specs.declared.verdict.Verdict.{Verdict}
use Rattle.kr_judge.specs.Boards.{GenerationState}
use Rattle.kr_judge.specs.Verdicts.{verdict_of}
use Rattle.kr_opening.specs.declared.generation.Generation.{Generation}
use Rattle.kr_rollout.specs.Entries.{published_at}

-- the generations, by their numbers; for each replica the number of its current generation, and for
-- each seat that of the generation that it holds; for each path at which a value lives the provider
-- that it needs, in the order of paths; the store's rows, and how often its tape had failed
pub record State : Type 0 where
  pub generations : List Generation
  pub current : List (Option ℕ)
  pub held : List (Option ℕ)
  pub needs : List Need
  pub rows : List LogRow
  pub count : ℕ

abbrev pub number_at : List (Option ℕ) → ℕ → Option ℕ
number_at numbers place = get_or numbers place None

-- the number of the replica's current generation; a replica that has one is in
abbrev pub current_of : State → ℕ → Option ℕ
current_of st replica = number_at st.current replica

-- the number of the generation that the seat holds
abbrev pub held_by : State → ℕ → Option ℕ
held_by st seat = number_at st.held seat

-- a generation is live while it is a replica's current one or a seat holds it
abbrev pub IsLiveNumber : State → ℕ → Type 0
IsLiveNumber st number = Contains st.current (Some number) ⊎ Contains st.held (Some number)

-- the settings of a live generation
abbrev pub IsLive : State → List ConfigEntry → Type 0
IsLive st rows = (number : ℕ) × IsLiveNumber st number
    × (option_map (λ p. p.rows) (published_at st.generations (Some number)) ≡ Some rows)

-- the generations as they are judged: whether a replica has it as its current one, and how many
-- seats hold it

abbrev pub is_number : ℕ → Option ℕ → Bool
is_number number None = false
is_number number (Some own) = own == number

abbrev pub judged_generation : (current held : List (Option ℕ)) → ℕ → Generation → GenerationState
judged_generation current held number generation = record {
  replica = generation.replica;
  rows = generation.published.rows;
  current = list_any (is_number number) current;
  holders = count_by (is_number number) held;
}

abbrev pub judged_generations : (current held : List (Option ℕ)) → ℕ → List Generation
    → List GenerationState
judged_generations current held number [] = []
judged_generations current held number (generation ∷ generations) =
    judged_generation current held number generation
    ∷ judged_generations current held (number + 1) generations

abbrev pub board_generations : State → List GenerationState
board_generations st = judged_generations st.current st.held 0 st.generations

-- the verdict on new settings of a replica
abbrev pub verdict_on : State → ℕ → List ConfigEntry → Verdict
verdict_on st replica rows = verdict_of st.needs (board_generations st) replica rows
