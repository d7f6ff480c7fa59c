-- How the opening's board is made: from the live rows one by one, then from the replicas one by
-- one.
use Rattle.std.specs.Prelude.{◌≡◌, ◌≢◌, ℕ, ◌+◌, List, [], ◌∷◌, Bool, true, false, Option, None, Some, Result, Ok, Err, ⊤}
use Rattle.kr_store.specs.declared.rows.LogRow.{LogRow}
use Rattle.kr_store.specs.declared.rows.Row as stored_row
use Rattle.kr_config.specs.declared.who.Who.{Who}
use Rattle.kr_config.specs.Kept.{ConfigEntry}
use Rattle.kr_judge.specs.declared.verdict.Verdict.{Verdict}
use Rattle.kr_judge.specs.declared.verdict.Verdict.TheVariants.{Pass, DropsStored, DropsWriter, Unread}
use Rattle.kr_judge.specs.Boards.{BoardState, set_need, given_to}
use Rattle.kr_judge.specs.Verdicts.{verdict_of}
use Rattle.kr_opening.specs.declared.opening_board.StartNo.{StartNo}
use Rattle.kr_opening.specs.declared.opening_board.StartNo.TheVariants.{Stray, OtherSecret, Unfit, NoMemory}
use Rattle.kr_opening.specs.Checks.{keeps_check}
use Rattle.kr_opening.specs.Needs.{provider_of, needs_of, HasNoStray, HasNoOtherSecret}
use Rattle.kr_opening.specs.Starts.{opening_generations, IsLeastStray, IsLeastOther, AllFit, IsUnfit}
use Rattle.kr_provider.specs.Publication.{Publication}
use Rattle.kr_opening.specs.declared.generation.Generation.{Generation}

-- it is stray at the path, or there was no memory for that
abbrev pub IsStrayOf : List ℕ → StartNo → Type 0
IsStrayOf path (Stray own) = own ≡ path
IsStrayOf path (OtherSecret own) = ⊥
IsStrayOf path (Unfit replica verdict) = ⊥
IsStrayOf path NoMemory = ⊤

-- what a row needs stands on the board, and it is told whether the row has its provider's check; or
-- the row has no provider
abbrev pub Notes : (first : List ConfigEntry) → stored_row.Row → BoardState → BoardState
    → Result Bool StartNo → Type 0
Notes first row old new (Ok kept) =
    (who : Who) × (provider_of first row.resource row.stored ≡ Some who)
    × (kept ≡ keeps_check row.check who)
    × (new ≡ record old {
      needs = set_need old.needs (record { path = row.path; resource = row.resource; who = who });
    })
Notes first row old new (Err (Stray path)) =
    (path ≡ row.path) × (provider_of first row.resource row.stored ≡ None)
Notes first row old new (Err (OtherSecret path)) = ⊥
Notes first row old new (Err (Unfit replica verdict)) = ⊥
Notes first row old new (Err NoMemory) = ⊤

abbrev pub NotesAll : (first : List ConfigEntry) → List LogRow → BoardState → BoardState
    → Result (Unit {0}) StartNo → Type 0
NotesAll first rows old new (Ok done) =
    HasNoStray first rows × HasNoOtherSecret first rows
    × (new ≡ record old { needs = needs_of first rows })
NotesAll first rows old new (Err (Stray path)) = IsLeastStray first rows path
NotesAll first rows old new (Err (OtherSecret path)) =
    HasNoStray first rows × IsLeastOther first rows path
NotesAll first rows old new (Err (Unfit replica verdict)) = ⊥
NotesAll first rows old new (Err NoMemory) = ⊤

-- the path of the row where the walk is; the empty one at its begin
abbrev pub walk_path : Option stored_row.Row → List ℕ
walk_path None = []
walk_path (Some row) = row.path

-- the path of the first row with another secret: the one that was found, or else this one
abbrev pub first_other : Option (List ℕ) → (kept : Bool) → (path : List ℕ) → Option (List ℕ)
first_other (Some found) kept path = Some found
first_other None true path = None
first_other None false path = Some path

-- what is answered after all rows
abbrev pub no_other : Option (List ℕ) → Result (Unit {0}) StartNo
no_other None = Ok tt
no_other (Some path) = Err (OtherSecret path)

abbrev pub is_refusal : Verdict → Bool
is_refusal Pass = false
is_refusal (DropsStored path who) = true
is_refusal (DropsWriter generation class who) = true
is_refusal (Unread generation class who) = true

-- a replica's settings are judged on the board, and are its next generation
abbrev pub Admits : ℕ → List ConfigEntry → BoardState → BoardState → Result (Unit {0}) StartNo
    → Type 0
Admits replica rows old new (Ok done) = (verdict_of old.needs old.generations replica rows ≡ Pass)
    × (new ≡ record old { generations = given_to replica rows old.generations })
Admits replica rows old new (Err (Stray path)) = ⊥
Admits replica rows old new (Err (OtherSecret path)) = ⊥
Admits replica rows old new (Err (Unfit other verdict)) = (other ≡ replica)
    × (verdict ≡ verdict_of old.needs old.generations replica rows) × (verdict ≢ Pass)
Admits replica rows old new (Err NoMemory) = ⊤

-- those of a replica that is in
abbrev pub TakesUp : ℕ → Option (List ConfigEntry) → BoardState → BoardState
    → Result (Unit {0}) StartNo
    → Type 0
TakesUp replica None old new result = (new ≡ old) × (result ≡ Ok tt)
TakesUp replica (Some rows) old new result = Admits replica rows old new result

abbrev pub TakesAllUp : List (Option (List ConfigEntry)) → BoardState → BoardState
    → Result (Unit {0}) StartNo → Type 0
TakesAllUp replicas old new (Ok done) =
    AllFit replicas old.needs × (new ≡ record old { generations = opening_generations 0 replicas })
TakesAllUp replicas old new (Err (Stray path)) = ⊥
TakesAllUp replicas old new (Err (OtherSecret path)) = ⊥
TakesAllUp replicas old new (Err (Unfit replica verdict)) =
    IsUnfit replicas old.needs replica verdict
TakesAllUp replicas old new (Err NoMemory) = ⊤

-- ---- what is kept of a replica

-- its generation, where it is in
abbrev pub generation_at : ℕ → Option Publication → List Generation
generation_at replica None = []
generation_at replica (Some p) = record { replica = replica; published = p } ∷ []

abbrev pub joined_number : Option Publication → ℕ → Option ℕ
joined_number None number = None
joined_number (Some p) number = Some number

abbrev pub next_joined_number : Option Publication → ℕ → ℕ
next_joined_number None number = number
next_joined_number (Some p) number = number + 1
