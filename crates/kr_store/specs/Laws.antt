-- What follows from the definitions of rows, of a file and of its breaches.
use Rattle.std.specs.Prelude.{◌≡◌, ℕ, ◌-◌, ◌++◌, ◌^◌, ◌<◌, ◌≤◌, ◌⊎◌, List, [], ◌∷◌, length, take, All, None, Some}
use Rattle.kr_store.specs.declared.format.Format.{Format}
use Rattle.kr_store.specs.declared.rows.LogRow.{LogRow}
use Rattle.kr_store.specs.declared.rows.Row.{Row}
use Rattle.kr_store.specs.declared.answers.StoreNo.{StoreNo}
use Rattle.kr_store.specs.Rows.{live, put_at, log_row_at, AreRows, MayFollow}
use Rattle.kr_store.specs.File.{IsFile}
use Rattle.kr_store.specs.Breaches.{IsBreach}
use Rattle.kr_store.specs.Stores.{IsListing, IsNext}

-- bytes are the file of one format and one list of rows
abbrev pub OneFile : Type 0
OneFile =
    (bytes : List ℕ) (format other : Format) (rows others : List LogRow)
    → IsFile format rows bytes → IsFile other others bytes → (format ≡ other) × (rows ≡ others)

-- bytes have one first breach
abbrev pub OneBreach : Type 0
OneBreach =
    (bytes : List ℕ) (why other : StoreNo)
    → IsBreach bytes why → IsBreach bytes other → why ≡ other

-- bytes with a breach are the file of no rows
abbrev pub NoFileBroken : Type 0
NoFileBroken =
    (bytes : List ℕ) (why : StoreNo) (format : Format) (rows : List LogRow)
    → IsBreach bytes why → IsFile format rows bytes → ⊥

-- bytes are the file of some rows, or have a breach
abbrev pub FileOrBreach : Type 0
FileOrBreach =
    (bytes : List ℕ) → All (λ byte. byte < 256) bytes → length bytes < 2 ^ 63
    → ((format : Format) × (rows : List LogRow) × IsFile format rows bytes)
    ⊎ ((why : StoreNo) × IsBreach bytes why)

-- a row may stand behind the rows before it
abbrev pub RowFollows : Type 0
RowFollows =
    (format : Format) (rows : List LogRow) (revision : ℕ) (row : LogRow) → AreRows format rows
    → log_row_at rows revision ≡ Some row → MayFollow format (take (revision - 1) rows) row

-- a row keeps its revision when more rows are written
abbrev pub RowStays : Type 0
RowStays =
    (rows more : List LogRow) (revision : ℕ)
    → revision ≤ length rows → put_at (rows ++ more) revision ≡ put_at rows revision

-- a path's live row is that with its revision, and has the path
abbrev pub LiveIsAt : Type 0
LiveIsAt =
    (rows : List LogRow) (path : List ℕ) (row : Row)
    → live rows path ≡ Some row → (put_at rows row.revision ≡ Some row) × (row.path ≡ path)

-- rows have one listing
abbrev pub OneListing : Type 0
OneListing =
    (rows : List LogRow) (listing other : List Row)
    → IsListing rows listing → IsListing rows other → listing ≡ other

-- each row is the next one behind that before it, and behind the last one is none
abbrev pub FollowEachOther : List LogRow → List ℕ → List Row → Type 0
FollowEachOther rows path [] = IsNext rows path None
FollowEachOther rows path (row ∷ more) =
    IsNext rows path (Some row) × FollowEachOther rows row.path more

-- what is found by asking for the next row, from the empty path on, is the listing
abbrev pub NextsAreListing : Type 0
NextsAreListing =
    (format : Format) (rows : List LogRow) (listing : List Row)
    → AreRows format rows → FollowEachOther rows [] listing → IsListing rows listing
