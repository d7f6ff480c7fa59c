-- When a rollout may start, and why not.
use Rattle.std.specs.Prelude.{◌≡◌, ◌≢◌, ℕ, ◌+◌, List, [], ◌∷◌, take, Contains, Option, None, Some, Result, Ok, Err, ⊤}
use Rattle.std.specs.List.{slice_get}
use Rattle.std.specs.declared.cmp.Ordering.TheVariants.{Less}
use Rattle.kr_store.specs.declared.rows.LogRow.{LogRow}
use Rattle.kr_store.specs.declared.rows.Row as stored_row
use Rattle.kr_store.specs.Rows.{live}
use Rattle.kr_config.specs.Kept.{ConfigEntry}
use Rattle.kr_config.specs.Nexts.{name_cmp}
use Rattle.kr_judge.specs.declared.need.Need.{Need}
use Rattle.kr_judge.specs.declared.verdict.Verdict.{Verdict}
use Rattle.kr_judge.specs.declared.verdict.Verdict.TheVariants.{Pass}
use Rattle.kr_judge.specs.Boards.{BoardState, GenerationState, added_generation}
use Rattle.kr_judge.specs.Verdicts.{verdict_of}
use Rattle.kr_opening.specs.declared.opening_board.StartNo.{StartNo}
use Rattle.kr_opening.specs.declared.opening_board.StartNo.TheVariants.{Stray, OtherSecret, Unfit, NoMemory}
use Rattle.kr_judge.specs.LiveFits.{AreFit}
use Rattle.kr_opening.specs.Needs.{provider_of, needs_of, HasNoStray, IsOtherSecret, HasNoOtherSecret}
use Rattle.kr_opening.specs.Replicas.{first_rows}

-- the generations of the replicas that are in, from this replica on, as they are judged
abbrev pub opening_generations : ℕ → List (Option (List ConfigEntry)) → List GenerationState
opening_generations replica [] = []
opening_generations replica (None ∷ replicas) = opening_generations (replica + 1) replicas
opening_generations replica (Some rows ∷ replicas) =
    added_generation replica rows ∷ opening_generations (replica + 1) replicas

-- ---- the causes, in their order

-- the live row of the path has no provider
abbrev pub IsStray : (first : List ConfigEntry) → List LogRow → List ℕ → Type 0
IsStray first rows path = (row : stored_row.Row) × (live rows path ≡ Some row)
    × (provider_of first row.resource row.stored ≡ None)

-- and no lesser path is so
pub record IsLeastStray (first : List ConfigEntry) (rows : List LogRow) (path : List ℕ)
    : Type 0 where
  pub stray : IsStray first rows path
  pub least : (lesser : List ℕ) → IsStray first rows lesser → name_cmp lesser path ≢ Less

-- the live row of the path was sealed with another secret, and of no lesser path
pub record IsLeastOther (first : List ConfigEntry) (rows : List LogRow) (path : List ℕ)
    : Type 0 where
  pub other : IsOtherSecret first rows path
  pub least : (lesser : List ℕ) → IsOtherSecret first rows lesser → name_cmp lesser path ≢ Less

-- the settings of the replicas that are in fit
abbrev pub AllFit : List (Option (List ConfigEntry)) → List Need → Type 0
AllFit replicas needs = AreFit (λ rows. Contains replicas (Some rows)) needs

-- the replicas before this one fit, and its settings are refused by the verdict on them
pub record IsUnfit (replicas : List (Option (List ConfigEntry))) (needs : List Need) (replica : ℕ)
    (verdict : Verdict) : Type 0 where
  pub rows : List ConfigEntry
  pub is : slice_get replicas replica ≡ Some (Some rows)
  pub before : AllFit (take replica replicas) needs
  pub verdict_is : verdict ≡ verdict_of needs
      (opening_generations 0 (take replica replicas)) replica rows
  pub refused : verdict ≢ Pass

abbrev pub IsNoStart : List LogRow → List (Option (List ConfigEntry)) → StartNo → Type 0
IsNoStart rows replicas (Stray path) = IsLeastStray (first_rows replicas) rows path
IsNoStart rows replicas (OtherSecret path) = HasNoStray (first_rows replicas) rows
    × IsLeastOther (first_rows replicas) rows path
IsNoStart rows replicas (Unfit replica verdict) = HasNoStray (first_rows replicas) rows
    × HasNoOtherSecret (first_rows replicas) rows
    × IsUnfit replicas (needs_of (first_rows replicas) rows) replica verdict
IsNoStart rows replicas NoMemory = ⊤

-- ---- the calls

-- each live row has a provider and its check, and the replicas that are in fit
pub record MayStart (rows : List LogRow) (replicas : List (Option (List ConfigEntry)))
    : Type 0 where
  pub readable : HasNoStray (first_rows replicas) rows
  pub secrets : HasNoOtherSecret (first_rows replicas) rows
  pub fit : AllFit replicas (needs_of (first_rows replicas) rows)

-- the board of the rows and of the replicas' settings, with room for so many generations
abbrev pub Boards : List LogRow → List (Option (List ConfigEntry)) → (room : ℕ)
    → Result BoardState StartNo
    → Type 0
Boards rows replicas room (Ok board) = MayStart rows replicas × (board
    ≡ record {
      generations = opening_generations 0 replicas;
      needs = needs_of (first_rows replicas) rows;
      proposal = None;
      room = room;
    })
Boards rows replicas room (Err why) = IsNoStart rows replicas why
