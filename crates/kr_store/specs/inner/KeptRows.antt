-- What a store keeps of its rows.
use Rattle.std.specs.Prelude.{◌≡◌, ℕ, ◌+◌, List, [], ◌∷◌, map, Option, None, Some, ⊤}
use Rattle.kr_base.specs.Rules.{IsPath}
use Rattle.kr_store.specs.Rows.{IsRow, IsPut}
use Rattle.kr_store.specs.declared.format.Format.{Format}
use Rattle.kr_store.specs.declared.rows.Row.{Row}
use Rattle.kr_store.specs.declared.rows.Change.{Change}
use Rattle.kr_store.specs.declared.rows.Change.TheVariants.{Put, Delete}
use Rattle.kr_store.specs.declared.rows.LogRow.{LogRow}
use Rattle.kr_store.specs.declared.kept_row.KeptRow.{KeptRow}
use Rattle.kr_store.specs.declared.kept_row.KeptRow.TheVariants as kept

-- the row of the file that is kept so
abbrev pub log_row_of : KeptRow → LogRow
log_row_of (kept.Put row) =
    record { path = row.path; change = Put row.resource row.stored row.check }
log_row_of (kept.Delete path) = record { path = path; change = Delete }

-- the row that is shared
abbrev pub shared_row : KeptRow → Option Row
shared_row (kept.Put row) = Some row
shared_row (kept.Delete path) = None

-- a put keeps the rules of its parts
abbrev pub IsChange : Format → Change → Type 0
IsChange format (Put resource stored check) = IsPut format resource stored check
IsChange format Delete = ⊤

-- the rules of what is kept of the row with revision k
abbrev pub IsKeptRow : Format → ℕ → KeptRow → Type 0
IsKeptRow format k (kept.Put row) = IsRow format row × (row.revision ≡ k)
IsKeptRow format k (kept.Delete path) = IsPath path

-- rows of which the first has revision k
abbrev pub AreKeptRows : Format → ℕ → List KeptRow → Type 0
AreKeptRows format k [] = ⊤
AreKeptRows format k (row ∷ rows) = IsKeptRow format k row × AreKeptRows format (k + 1) rows

abbrev pub log_rows_of : List KeptRow → List LogRow
log_rows_of rows = map log_row_of rows
