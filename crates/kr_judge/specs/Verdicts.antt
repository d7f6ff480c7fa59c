-- The verdict on new settings of a replica: the first of all reasons against them.
use Rattle.std.specs.Prelude.{ℕ, ◌+◌, ◌==◌, ◌&&◌, ◌++◌, not, Bool, List, [], ◌∷◌, Option, None, Some, map, filter}
use Rattle.std.specs.List.{filter_map, flat_map}
use Rattle.std.specs.Option.{option_map}
use Rattle.kr_config.specs.declared.who.Who.{Who}
use Rattle.kr_config.specs.declared.class.Class.{Class}
use Rattle.kr_config.specs.Kept.{ConfigEntry}
use Rattle.kr_config.specs.Lists.{list_of, class_list}
use Rattle.kr_judge.specs.declared.need.Need.{Need}
use Rattle.kr_judge.specs.declared.verdict.Verdict.{Verdict}
use Rattle.kr_judge.specs.declared.verdict.Verdict.TheVariants.{Pass, DropsStored, DropsWriter, Unread}
use Rattle.kr_judge.specs.Boards.{GenerationState, BoardState, is_live}
use Rattle.kr_judge.specs.Providers.{has, unread_writer}
use Rattle.kr_judge.specs.Tables.{table_of}

abbrev pub with_numbers : ℕ → List GenerationState → List (ℕ × GenerationState)
with_numbers number [] = []
with_numbers number (generation ∷ generations) =
    (number, generation) ∷ with_numbers (number + 1) generations

-- it is live beside new settings of the replica: the replica's current one counts where something
-- holds it
abbrev pub is_other : ℕ → GenerationState → Bool
is_other replica generation = is_live generation
    && not ((generation.replica == replica) && (generation.current && (generation.holders == 0)))

unfoldable pub others : ℕ → List GenerationState → List (ℕ × GenerationState)
others replica generations = filter (λ n. is_other replica n.1) (with_numbers 0 generations)

-- the classes that the live generations and the new settings tell apart
abbrev pub judged_classes : List ConfigEntry → List GenerationState → List Class
judged_classes rows generations =
    table_of (rows ∷ map (λ generation. generation.rows) (filter is_live generations))

-- of the classes in their order those that the one settings write by a provider that the others'
-- list hasn't
abbrev pub unread_classes : List Class → (writing reading : List ConfigEntry) → List (Class × Who)
unread_classes classes writing reading = filter_map (λ class. option_map (λ who. (class, who))
    (unread_writer (class_list writing class) (class_list reading class))) classes

-- the needs that the new settings don't read
abbrev pub dropped_needs : List ConfigEntry → List Need → List Need
dropped_needs rows needs = filter (λ need. not (has (list_of rows need.resource) need.who)) needs

-- what the generation writes and the new settings don't read
abbrev pub drops_writer : List Class → List ConfigEntry → ℕ × GenerationState
    → List (ℕ × Class × Who)
drops_writer classes rows other =
    map (λ lost. (other.0, lost.0, lost.1)) (unread_classes classes other.1.rows rows)

-- what the new settings write and the generation doesn't read
abbrev pub unread_by : List Class → List ConfigEntry → ℕ × GenerationState → List (ℕ × Class × Who)
unread_by classes rows other =
    map (λ lost. (other.0, lost.0, lost.1)) (unread_classes classes rows other.1.rows)

unfoldable pub lost_writers : ℕ → List ConfigEntry → List GenerationState → List (ℕ × Class × Who)
lost_writers replica rows generations =
    flat_map (drops_writer (judged_classes rows generations) rows) (others replica generations)

unfoldable pub unread_writers : ℕ → List ConfigEntry → List GenerationState → List (ℕ × Class × Who)
unread_writers replica rows generations =
    flat_map (unread_by (judged_classes rows generations) rows) (others replica generations)

-- all reasons in their order
abbrev pub reasons : List Need → List GenerationState → ℕ → List ConfigEntry → List Verdict
reasons needs generations replica rows =
    map (λ need. DropsStored need.path need.who) (dropped_needs rows needs)
    ++ (map (λ lost. DropsWriter lost.0 lost.1 lost.2) (lost_writers replica rows generations)
    ++ map (λ lost. Unread lost.0 lost.1 lost.2) (unread_writers replica rows generations))

abbrev pub first : {X : Type 0} → List X → Option X
first [] = None
first (x ∷ xs) = Some x

abbrev pub first_or_pass : List Verdict → Verdict
first_or_pass [] = Pass
first_or_pass (reason ∷ reasons) = reason

unfoldable pub verdict_of : List Need → List GenerationState → ℕ → List ConfigEntry → Verdict
verdict_of needs generations replica rows = first_or_pass (reasons needs generations replica rows)

abbrev pub verdict : BoardState → ℕ → List ConfigEntry → Verdict
verdict board replica rows = verdict_of board.needs board.generations replica rows
