-- What an event writes to the store, or would write, and when it can't.
use Rattle.std.specs.Prelude.{◌≡◌, ℕ, ◌<◌, ◌≤◌, List, [], ◌∷◌, ◌++◌, length, Option, Some, IsSome, ⊤}
use Rattle.kr_base.specs.Faults.{Rose}
use Rattle.kr_store.specs.declared.format.Format.{Format}
use Rattle.kr_store.specs.declared.rows.LogRow.{LogRow}
use Rattle.kr_store.specs.declared.rows.Row.{Row}
use Rattle.kr_store.specs.Rows.{live, put_of, delete_of, row_of}
use Rattle.kr_store.specs.File.{file_bytes}
use Rattle.kr_opening.specs.Checks.{written_check}
use Rattle.kr_provider.specs.Publication.{Publication, list_at}
use Rattle.kr_provider.specs.Reading.{HasSomeReading, data_of}
use Rattle.kr_provider.specs.Sealing.{IsSealing}
use Rattle.kr_rollout.specs.declared.line.Did.{Did}
use Rattle.kr_rollout.specs.declared.line.Did.TheVariants.{Put, Delete, Replace}
use Rattle.kr_rollout.specs.declared.line.Gave.{Gave}
use Rattle.kr_rollout.specs.declared.line.Gave.TheVariants.{Written, StoreFailed, StoreFull}
use Rattle.kr_rollout.specs.declared.opening.Entry.{Entry}
use Rattle.kr_rollout.specs.declared.opening.Opening.{Opening}
use Rattle.kr_rollout.specs.States.{State}

-- the row is a put of a sealing of the data by the configuration, with the check of its writer
pub record IsSealedPut (format : Format) (p : Publication) (resource path plain : List ℕ)
    (row : LogRow) : Type 0 where
  pub stored : List ℕ
  pub sealing : IsSealing p resource path plain stored
  pub row_is : row ≡ put_of path resource stored (written_check format p resource)

-- it is that of the data as which the replaced row reads by the configuration, with some unwrapped
-- source
pub record IsSealedAnew (format : Format) (p : Publication) (path : List ℕ) (old : Row)
    (row : LogRow) : Type 0 where
  pub plain : List ℕ
  pub reads : HasSomeReading (list_at p old.resource) path old.stored (data_of plain)
  pub sealed : IsSealedPut format p old.resource path plain row

-- the row that an event writes behind these rows, or would write; the configuration is the held one
abbrev pub WouldWrite : Format → Did → List LogRow → Option Publication → LogRow → Type 0
WouldWrite format (Put path resource plain) rows held row =
    (p : Publication) × (held ≡ Some p) × IsSealedPut format p resource path plain row
WouldWrite format (Delete path) rows held row =
    IsSome (live rows path) × (row ≡ delete_of path)
WouldWrite format (Replace path revision) rows held row = (p : Publication) × (old : Row)
    × (held ≡ Some p) × (live rows path ≡ Some old) × (old.revision ≡ revision)
    × IsSealedAnew format p path old row
WouldWrite format did rows held row = ⊥

-- how long the store's file is with one more row
abbrev pub file_size : Format → List LogRow → LogRow → ℕ
file_size format rows row = length (file_bytes format (rows ++ row ∷ []))

-- a row was written that fits; or the tape's count rose; or the row doesn't fit
abbrev pub Writes : Gave → Opening → State → Entry → Type 0
Writes (Written revision) o st e =
    (row : LogRow) × WouldWrite o.format e.line.did st.rows e.published row
    × (file_size o.format st.rows row ≤ o.limit) × (e.row ≡ row_of revision row.path row.change)
Writes StoreFailed o st e =
    (row : LogRow) × WouldWrite o.format e.line.did st.rows e.published row
    × (file_size o.format st.rows row ≤ o.limit) × Rose st.count e.line.faults
Writes (StoreFull needed) o st e =
    (row : LogRow) × WouldWrite o.format e.line.did st.rows e.published row
    × (needed ≡ file_size o.format st.rows row) × (o.limit < needed)
Writes gave o st e = ⊤
