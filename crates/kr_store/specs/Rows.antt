-- The rows of a store: what was written, in order. The k-th row, from 1, has revision k.
use Rattle.std.specs.Prelude.{◌≡◌, ℕ, suc, zero, ◌+◌, ◌^◌, ◌<◌, ◌≤◌, if◌then◌else◌, List, [], ◌∷◌, ◌++◌, length, slice_get, Option, None, Some, IsSome, ⊤}
use Rattle.std.specs.Str.{bytes_eq}
use Rattle.kr_base.specs.Rules.{IsPath, IsResource}
use Rattle.kr_base.specs.Limits.{value_limit}
use Rattle.kr_store.specs.declared.format.Check.{Check}
use Rattle.kr_store.specs.declared.format.Format.{Format}
use Rattle.kr_store.specs.declared.format.Format.TheVariants.{One, Two}
use Rattle.kr_store.specs.declared.rows.Row.{Row}
use Rattle.kr_store.specs.declared.rows.Change.{Change}
use Rattle.kr_store.specs.declared.rows.Change.TheVariants.{Put, Delete}
use Rattle.kr_store.specs.declared.rows.LogRow.{LogRow}

abbrev pub put_of : List ℕ → List ℕ → List ℕ → Option Check → LogRow
put_of path resource stored check = record { path = path; change = Put resource stored check }

abbrev pub delete_of : List ℕ → LogRow
delete_of path = record { path = path; change = Delete }

-- what was found later, or else this
abbrev pub later : {A : Type 0} → Option A → Option A → Option A
later None this = this
later (Some found) this = Some found

-- the last row of the path with its revision, where the first of the rows has revision k
abbrev pub latest_from : ℕ → List LogRow → List ℕ → Option (ℕ × LogRow)
latest_from k [] path = None
latest_from k (row ∷ rows) path =
    later (latest_from (k + 1) rows path) (if bytes_eq row.path path then Some (k, row) else None)

abbrev pub latest : List LogRow → List ℕ → Option (ℕ × LogRow)
latest rows path = latest_from 1 rows path

-- a row as it is handed out, where it puts a value
abbrev pub row_of : ℕ → List ℕ → Change → Option Row
row_of k path (Put resource stored check) =
    Some (record { path = path; resource = resource; revision = k; stored = stored; check = check })
row_of k path Delete = None

-- a row with its revision, where it puts a value
abbrev pub live_row : Option (ℕ × LogRow) → Option Row
live_row None = None
live_row (Some found) = row_of found.0 found.1.path found.1.change

-- the path's live row: its last one, where that puts a value
abbrev pub live : List LogRow → List ℕ → Option Row
live rows path = live_row (latest rows path)

-- the row with this revision
abbrev pub log_row_at : List LogRow → ℕ → Option LogRow
log_row_at rows zero = None
log_row_at rows (suc n) = slice_get rows n

-- a row with its revision
abbrev pub with_revision : ℕ → Option LogRow → Option (ℕ × LogRow)
with_revision k None = None
with_revision k (Some row) = Some (k, row)

-- the row with this revision, where it puts a value
abbrev pub put_at : List LogRow → ℕ → Option Row
put_at rows k = live_row (with_revision k (log_row_at rows k))

-- the revision of the path's last row, 0 where it has none
abbrev pub revision_of : Option (ℕ × LogRow) → ℕ
revision_of None = 0
revision_of (Some found) = found.0

-- a value is at most this long
abbrev pub longest_value : ℕ
longest_value = value_limit

-- in format 1 no put has a check, in format 2 each has one, of 8 bytes
abbrev pub HasCheck : Format → Option Check → Type 0
HasCheck format None = format ≡ One
HasCheck format (Some check) = (format ≡ Two) × (check.value < 2 ^ 64)

-- what a format keeps of a check
abbrev pub check_in : Format → Check → Option Check
check_in One check = None
check_in Two check = Some check

-- the rules of what is put
abbrev pub IsPut : Format → List ℕ → List ℕ → Option Check → Type 0
IsPut format resource stored check =
    IsResource resource × (length stored ≤ longest_value) × HasCheck format check

-- what a row may do after the rows before it: put a value within its limits, or delete a live row
abbrev pub MayChange : Format → List LogRow → List ℕ → Change → Type 0
MayChange format before path (Put resource stored check) = IsPut format resource stored check
MayChange format before path Delete = IsSome (live before path)

-- a row may stand behind those before it; its revision has 8 bytes
pub record MayFollow (format : Format) (before : List LogRow) (row : LogRow) : Type 0 where
  pub revision : length before + 1 < 2 ^ 64
  pub path : IsPath row.path
  pub change : MayChange format before row.path row.change

-- each row may stand behind those before it
abbrev pub AllFollow : Format → List LogRow → List LogRow → Type 0
AllFollow format before [] = ⊤
AllFollow format before (row ∷ rows) =
    MayFollow format before row × AllFollow format (before ++ row ∷ []) rows

abbrev pub AreRows : Format → List LogRow → Type 0
AreRows format rows = AllFollow format [] rows

-- a row that is handed out keeps the rules of its parts
abbrev pub IsRow : Format → Row → Type 0
IsRow format row = IsPath row.path × IsPut format row.resource row.stored row.check
