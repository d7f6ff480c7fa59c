-- The table of a rollout's steps: what is answered to an event in a state, where the seat holds a
-- generation or none.
use Rattle.std.specs.Prelude.{◌≡◌, ◌≢◌, ℕ, ◌+◌, List, length, Option, None, Some, IsSome, ⊤}
use Rattle.kr_store.specs.declared.rows.Row.{Row}
use Rattle.kr_store.specs.declared.rows.LogRow.{LogRow}
use Rattle.kr_store.specs.Rows.{live, latest, revision_of}
use Rattle.kr_store.specs.Stores.{IsNext, IsLatestPut}
use Rattle.kr_judge.specs.declared.verdict.Verdict.{Verdict}
use Rattle.kr_judge.specs.declared.verdict.Verdict.TheVariants.{Pass}
use Rattle.kr_provider.specs.Publication.{Publication}
use Rattle.kr_rollout.specs.declared.line.Did.{Did}
use Rattle.kr_rollout.specs.declared.line.Did.TheVariants.{Adopt, Fetch, After, Put, Delete, Replace, LetGo, Reload, Join, Leave}
use Rattle.kr_rollout.specs.declared.line.Gave.{Gave}
use Rattle.kr_rollout.specs.declared.line.Gave.TheVariants.{Adopted, Found, Absent, Written, Changed, Released, Reloaded, Joined, Refused, Moved, Present, Departed, Gone, StoreFailed, StoreFull, Nothing}
use Rattle.kr_rollout.specs.States.{State, current_of, verdict_on}

-- the replica's current generation is adopted
abbrev pub IsAdoptAnswer : ℕ → Gave → State → Option ℕ → Type 0
IsAdoptAnswer replica (Adopted number) st held = (held ≡ None)
    × (current_of st replica ≡ Some number)
IsAdoptAnswer replica (Gone other) st held =
    (held ≡ None) × (other ≡ replica) × (current_of st replica ≡ None)
IsAdoptAnswer replica Nothing st held = (held ≡ None) × IsSome (current_of st replica)
IsAdoptAnswer replica gave st held = ⊥

-- the live row of the path is found
abbrev pub IsFetchAnswer : List ℕ → Gave → State → Option ℕ → Type 0
IsFetchAnswer path (Found revision) st held =
    IsSome held × (row : Row) × (live st.rows path ≡ Some row) × (row.revision ≡ revision)
IsFetchAnswer path Absent st held = IsSome held × (live st.rows path ≡ None)
IsFetchAnswer path Nothing st held = IsSome held
IsFetchAnswer path gave st held = ⊥

-- the live row with the least path above this one is found
abbrev pub FindsNext : List ℕ → Gave → State → Option ℕ → Type 0
FindsNext path (Found revision) st held =
    IsSome held × (row : Row) × IsNext st.rows path (Some row) × (row.revision ≡ revision)
FindsNext path Absent st held = IsSome held × IsNext st.rows path None
FindsNext path Nothing st held = IsSome held
FindsNext path gave st held = ⊥

-- a row is written behind the others, or the store fails or is full
abbrev pub PutsRow : Gave → State → Option ℕ → Type 0
PutsRow (Written revision) st held = IsSome held × (revision ≡ length st.rows + 1)
PutsRow StoreFailed st held = IsSome held
PutsRow (StoreFull needed) st held = IsSome held
PutsRow Nothing st held = IsSome held
PutsRow gave st held = ⊥

-- a live row is deleted
abbrev pub DeletesRow : List ℕ → Gave → State → Type 0
DeletesRow path (Written revision) st = IsSome (live st.rows path) × (revision ≡ length st.rows + 1)
DeletesRow path Absent st = live st.rows path ≡ None
DeletesRow path StoreFailed st = ⊤
DeletesRow path (StoreFull needed) st = ⊤
DeletesRow path Nothing st = ⊤
DeletesRow path gave st = ⊥

-- the path's last row is a put with this revision
abbrev pub IsStill : List LogRow → List ℕ → ℕ → Type 0
IsStill rows path revision = (row : Row) × IsLatestPut rows path revision row

-- a row takes the place of the one with this revision, where that is still the path's last one
abbrev pub ReplacesRow : List ℕ → ℕ → Gave → State → Option ℕ → Type 0
ReplacesRow path revision (Written number) st held =
    IsSome held × IsStill st.rows path revision × (number ≡ length st.rows + 1)
ReplacesRow path revision (Changed last) st held =
    IsSome held × (¬ IsStill st.rows path revision) × (last ≡ revision_of (latest st.rows path))
ReplacesRow path revision StoreFailed st held = IsSome held
ReplacesRow path revision (StoreFull needed) st held = IsSome held
ReplacesRow path revision Nothing st held = IsSome held
ReplacesRow path revision gave st held = ⊥

-- the held generation is let go; this never wants memory
abbrev pub IsLetGoAnswer : Gave → Option ℕ → Type 0
IsLetGoAnswer Released held = IsSome held
IsLetGoAnswer gave held = ⊥

-- a generation is expected or any
abbrev pub IsExpected : Option ℕ → ℕ → Type 0
IsExpected None current = ⊤
IsExpected (Some number) current = number ≡ current

abbrev pub IsUnexpected : Option ℕ → ℕ → Type 0
IsUnexpected expect current = ¬ IsExpected expect current

-- the replica, which is in, has the expected current generation
abbrev pub HasExpected : State → ℕ → Option ℕ → Type 0
HasExpected st replica expect =
    (current : ℕ) × (current_of st replica ≡ Some current) × IsExpected expect current

-- what is judged is refused by the first reason, or else is the next generation
abbrev pub IsRefusedByVerdict : State → ℕ → Publication → Verdict → Type 0
IsRefusedByVerdict st replica p verdict = (verdict ≡ verdict_on st replica p.rows)
    × (verdict ≢ Pass)

abbrev pub IsNextGeneration : State → ℕ → Publication → ℕ → Type 0
IsNextGeneration st replica p number =
    (verdict_on st replica p.rows ≡ Pass) × (number ≡ length st.generations)

-- a replica that is in is given another configuration; a replica that has moved on is told without
-- memory
abbrev pub Reloads : ℕ → Publication → Option ℕ → Gave → State → Type 0
Reloads replica p expect (Gone other) st = (other ≡ replica) × (current_of st replica ≡ None)
Reloads replica p expect (Moved current) st =
    (current_of st replica ≡ Some current) × IsUnexpected expect current
Reloads replica p expect (Refused verdict) st =
    HasExpected st replica expect × IsRefusedByVerdict st replica p verdict
Reloads replica p expect (Reloaded number) st =
    HasExpected st replica expect × IsNextGeneration st replica p number
Reloads replica p expect Nothing st = HasExpected st replica expect
Reloads replica p expect gave st = ⊥

-- a replica that isn't in is given a configuration
abbrev pub Joins : ℕ → Publication → Gave → State → Type 0
Joins replica p (Present current) st = current_of st replica ≡ Some current
Joins replica p (Refused verdict) st =
    (current_of st replica ≡ None) × IsRefusedByVerdict st replica p verdict
Joins replica p (Joined number) st =
    (current_of st replica ≡ None) × IsNextGeneration st replica p number
Joins replica p Nothing st = current_of st replica ≡ None
Joins replica p gave st = ⊥

-- a replica that is in is so no more; this never wants memory
abbrev pub Leaves : ℕ → Gave → State → Type 0
Leaves replica (Departed current) st = current_of st replica ≡ Some current
Leaves replica (Gone other) st = (other ≡ replica) × (current_of st replica ≡ None)
Leaves replica gave st = ⊥

-- one line for each event
abbrev pub IsAnswer : Did → Gave → State → (held : Option ℕ) → Type 0
IsAnswer (Adopt replica) gave st held = IsAdoptAnswer replica gave st held
IsAnswer (Fetch path) gave st held = IsFetchAnswer path gave st held
IsAnswer (After path) gave st held = FindsNext path gave st held
IsAnswer (Put path resource plain) gave st held = PutsRow gave st held
IsAnswer (Delete path) gave st held = DeletesRow path gave st
IsAnswer (Replace path revision) gave st held = ReplacesRow path revision gave st held
IsAnswer LetGo gave st held = IsLetGoAnswer gave held
IsAnswer (Reload replica p expect) gave st held = Reloads replica p expect gave st
IsAnswer (Join replica p) gave st held = Joins replica p gave st
IsAnswer (Leave replica) gave st held = Leaves replica gave st
