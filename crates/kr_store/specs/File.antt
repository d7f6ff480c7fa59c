-- The file of a store's rows: nothing, or 8 bytes that name the format and then the rows in order.
-- Numbers have their highest byte first.
use Rattle.std.specs.Prelude.{◌≡◌, ℕ, ◌+◌, ◌⊎◌, List, [], ◌∷◌, ◌++◌, length, Option, None, Some, codes}
use Rattle.std.specs.Int.{w16, w32, w64, to_be_bytes}
use Rattle.kr_store.specs.declared.format.Check.{Check}
use Rattle.kr_store.specs.declared.format.Format.{Format}
use Rattle.kr_store.specs.declared.format.Format.TheVariants.{One, Two}
use Rattle.kr_store.specs.declared.kept_row.RowKind.{RowKind}
use Rattle.kr_store.specs.declared.kept_row.RowKind.TheVariants as kind
use Rattle.kr_store.specs.declared.rows.Change.{Change}
use Rattle.kr_store.specs.declared.rows.Change.TheVariants.{Put, Delete}
use Rattle.kr_store.specs.declared.rows.LogRow.{LogRow}
use Rattle.kr_store.specs.Rows.{AreRows}

-- what the magic of each format begins with
abbrev pub store_name : List ℕ
store_name = codes "KRSTORE"

-- the format's number as a digit
abbrev pub digit_of : Format → ℕ
digit_of One = 0x31
digit_of Two = 0x32

-- the bytes that name the format: KRSTORE1 or KRSTORE2
abbrev pub magic : Format → List ℕ
magic format = store_name ++ digit_of format ∷ []

-- a text behind its length
abbrev pub text_bytes : List ℕ → List ℕ
text_bytes text = to_be_bytes w16 (length text) ++ text

-- a value behind its length
abbrev pub value_bytes : List ℕ → List ℕ
value_bytes value = to_be_bytes w32 (length value) ++ value

-- a check, where the format keeps one
abbrev pub check_bytes : Option Check → List ℕ
check_bytes None = []
check_bytes (Some check) = to_be_bytes w64 check.value

abbrev pub kind_byte : RowKind → ℕ
kind_byte kind.Put = 1
kind_byte kind.Delete = 2

abbrev pub byte_kind : Change → RowKind
byte_kind (Put resource stored check) = kind.Put
byte_kind Delete = kind.Delete

abbrev pub change_bytes : Change → List ℕ
change_bytes (Put resource stored check) =
    text_bytes resource ++ (check_bytes check ++ value_bytes stored)
change_bytes Delete = []

-- a row: its kind, its revision and its path; behind those of a put the resource, the check and the
-- value
abbrev pub row_bytes : ℕ → LogRow → List ℕ
row_bytes k row =
    kind_byte (byte_kind row.change)
    ∷ (to_be_bytes w64 k ++ (text_bytes row.path ++ change_bytes row.change))

-- rows of which the first has revision k
abbrev pub rows_bytes : ℕ → List LogRow → List ℕ
rows_bytes k [] = []
rows_bytes k (row ∷ rows) = row_bytes k row ++ rows_bytes (k + 1) rows

-- the magic and the rows
abbrev pub file_bytes : Format → List LogRow → List ℕ
file_bytes format rows = magic format ++ rows_bytes 1 rows

-- the bytes are the file of the format and the rows; an empty file is one of format 2
abbrev pub IsFile : Format → List LogRow → List ℕ → Type 0
IsFile format rows bytes =
    AreRows format rows
    × (((format ≡ Two) × (rows ≡ []) × (bytes ≡ [])) ⊎ (bytes ≡ file_bytes format rows))
