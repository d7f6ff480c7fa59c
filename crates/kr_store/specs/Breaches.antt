-- What is wrong with bytes that are no file of a store, and where: the first breach.
use Rattle.std.specs.Prelude.{◌≡◌, ◌≢◌, ℕ, ◌+◌, ◌<◌, ◌≤◌, ◌⊎◌, ◌==◌, nat_le, nat_lt, Bool, true, if◌then◌else◌, List, [], ◌++◌, length, take, drop, get_or, Option, None, Some, is_some, Result, Ok, Err}
use Rattle.std.specs.Int.{w16, w32, w64, from_be_bytes}
use Rattle.kr_base.specs.Limits.{path_limit, name_limit}
use Rattle.kr_base.specs.Rules.{is_path, is_resource}
use Rattle.kr_store.specs.declared.format.Check.{Check}
use Rattle.kr_store.specs.declared.format.Format.{Format}
use Rattle.kr_store.specs.declared.format.Format.TheVariants.{One, Two}
use Rattle.kr_store.specs.declared.rows.Change.{Change}
use Rattle.kr_store.specs.declared.rows.Change.TheVariants.{Put, Delete}
use Rattle.kr_store.specs.declared.rows.LogRow.{LogRow}
use Rattle.kr_store.specs.Rows.{live, AreRows, longest_value}
use Rattle.kr_store.specs.File.{store_name, magic, file_bytes}
use Rattle.kr_store.specs.declared.answers.StoreNo.{StoreNo}
use Rattle.kr_store.specs.declared.answers.StoreNo.TheVariants as no
use Rattle.kr_store.specs.declared.kept_row.RowKind.{RowKind}
use Rattle.kr_store.specs.declared.kept_row.RowKind.TheVariants as kind
use Rattle.kr_store.specs.declared.answers.Cause.{Cause}
use Rattle.kr_store.specs.declared.answers.Cause.TheVariants.{Torn, BadRow, Order}

-- what is read from the front, and the bytes behind it; or why it can't be read
abbrev pub Read : Type 0 → Type 0
Read A = Result (A × List ℕ) Cause

-- the next part is read behind this one
abbrev pub behind : {A B : Type 0} → Read A → (A → List ℕ → Read B) → Read B
behind (Err cause) next = Err cause
behind (Ok found) next = next found.0 found.1

-- n bytes
abbrev pub part : ℕ → List ℕ → Read (List ℕ)
part n bytes = if nat_lt (length bytes) n then Err Torn else Ok (take n bytes, drop n bytes)

-- what was read, if it keeps its rule
abbrev pub kept_if : {A : Type 0} → Bool → Cause → A → List ℕ → Read A
kept_if holds cause x bytes = if holds then Ok (x, bytes) else Err cause

-- numbers of 2, 4 and 8 bytes
abbrev pub number_16 : List ℕ → Read ℕ
number_16 bytes = behind (part 2 bytes) (λ number rest. Ok (from_be_bytes w16 number, rest))

abbrev pub number_32 : List ℕ → Read ℕ
number_32 bytes = behind (part 4 bytes) (λ number rest. Ok (from_be_bytes w32 number, rest))

abbrev pub number_64 : List ℕ → Read ℕ
number_64 bytes = behind (part 8 bytes) (λ number rest. Ok (from_be_bytes w64 number, rest))

-- bytes behind their length, which is judged before them
abbrev pub sized_part : ℕ → List ℕ → Read (List ℕ)
sized_part most bytes =
    behind (number_16 bytes) (λ n rest. if nat_le n most then part n rest else Err BadRow)

abbrev pub path_part : List ℕ → Read (List ℕ)
path_part bytes =
    behind (sized_part path_limit bytes) (λ path rest. kept_if (is_path path) BadRow path rest)

abbrev pub resource_part : List ℕ → Read (List ℕ)
resource_part bytes =
    behind (sized_part name_limit bytes)
    (λ resource rest. kept_if (is_resource resource) BadRow resource rest)

-- the check of a put, which format 2 alone has
abbrev pub check_part : Format → List ℕ → Read (Option Check)
check_part One bytes = Ok (None, bytes)
check_part Two bytes =
    behind (number_64 bytes) (λ value rest. Ok (Some (record { value = value }), rest))

abbrev pub value_part : List ℕ → Read (List ℕ)
value_part bytes =
    behind (number_32 bytes) (λ n rest. if nat_le n longest_value then part n rest else Err BadRow)

-- the kind of a row: 1 is a put, 2 a delete
abbrev pub kind_by : ℕ → List ℕ → Read RowKind
kind_by byte rest =
    if byte == 1 then Ok (kind.Put, rest)
    else (if byte == 2 then Ok (kind.Delete, rest) else Err BadRow)

abbrev pub kind_part : List ℕ → Read RowKind
kind_part bytes = behind (part 1 bytes) (λ byte rest. kind_by (get_or byte 0 0) rest)

-- the revision, which has to be k
abbrev pub revision_part : ℕ → List ℕ → Read ℕ
revision_part k bytes =
    behind (number_64 bytes) (λ number rest. kept_if (number == k) Order number rest)

-- what a put does: its resource, its check and its value
abbrev pub put_part : Format → List ℕ → Read Change
put_part format bytes =
    behind (resource_part bytes) (λ resource rest. behind (check_part format rest)
    (λ check rest. behind (value_part rest) (λ stored rest. Ok (Put resource stored check, rest))))

-- what a row does, by its kind
abbrev pub change_part : Format → RowKind → List ℕ → Read Change
change_part format kind.Put bytes = put_part format bytes
change_part format kind.Delete bytes = Ok (Delete, bytes)

-- the kind and the path of the row with revision k
abbrev pub head_part : ℕ → List ℕ → Read (RowKind × List ℕ)
head_part k bytes =
    behind (kind_part bytes) (λ kind rest. behind (revision_part k rest)
    (λ _ rest. behind (path_part rest) (λ path rest. Ok ((kind, path), rest))))

-- the row with revision k, its parts from left to right
abbrev pub row_part : Format → ℕ → List ℕ → Read LogRow
row_part format k bytes =
    behind (head_part k bytes) (λ head rest. behind (change_part format head.0 rest)
    (λ change rest. Ok (record { path = head.1; change = change }, rest)))

-- a delete needs a live row
abbrev pub may_change : List LogRow → List ℕ → Change → Bool
may_change before path (Put resource stored check) = true
may_change before path Delete = is_some (live before path)

-- the row behind those before it
abbrev pub next_row : Format → List LogRow → List ℕ → Read LogRow
next_row format before bytes =
    behind (row_part format (length before + 1) bytes)
    (λ row rest. kept_if (may_change before row.path row.change) BadRow row rest)

-- the bytes are a file of some rows, and then what breaks at this place
pub record BreaksFileAt (bytes : List ℕ) (at : ℕ) (cause : Cause) : Type 0 where
  pub format : Format
  pub rows : List LogRow
  pub rest : List ℕ
  pub good : AreRows format rows
  pub split : bytes ≡ file_bytes format rows ++ rest
  pub more : rest ≢ []
  pub breaks : next_row format rows rest ≡ Err cause
  pub place : at ≡ length (file_bytes format rows)

-- 1 to 7 bytes that begin the magic of both formats
abbrev pub IsTornMagic : List ℕ → Type 0
IsTornMagic bytes =
    (0 < length bytes) × (length bytes ≤ length store_name)
    × (bytes ≡ take (length bytes) store_name)

-- the first bytes, at most 8, don't begin this format's magic and don't begin with it
abbrev pub IsOther : Format → List ℕ → Type 0
IsOther format bytes = take (length (magic format)) bytes ≢ take (length bytes) (magic format)

-- the first breach, by its kind
abbrev pub IsBreach : List ℕ → StoreNo → Type 0
IsBreach bytes no.Magic = (format : Format) → IsOther format bytes
IsBreach bytes (no.Torn at) = ((at ≡ 0) × IsTornMagic bytes) ⊎ BreaksFileAt bytes at Torn
IsBreach bytes (no.BadRow at) = BreaksFileAt bytes at BadRow
IsBreach bytes (no.Order at) = BreaksFileAt bytes at Order
IsBreach bytes no.TooLong = ⊥
IsBreach bytes no.Failed = ⊥
IsBreach bytes no.NoMemory = ⊥
