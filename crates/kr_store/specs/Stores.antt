-- What a store is seen as, and what its calls do.
use Rattle.std.specs.Prelude.{◌≡◌, ◌≢◌, ℕ, ◌+◌, ◌<◌, ◌≤◌, Bool, true, false, List, [], ◌∷◌, ◌++◌, length, map, All, Contains, Option, IfSome, IsSome, Some, None, Result, Ok, Err, ⊤}
use Rattle.std.specs.declared.cmp.Ordering.TheVariants.{Less}
use Rattle.std.specs.Ordering.{nat_cmp}
use Rattle.std.specs.Cmp.Lexicographic.{slice_cmp}
use Rattle.std.specs.List.Sorted.{IsStrictlySortedBy}
use Rattle.kr_base.specs.Told.{Agrees}
use Rattle.kr_base.specs.Faults.{Rose}
use Rattle.kr_base.specs.Numbering.{next_number}
use Rattle.kr_base.specs.Rules.{IsPath}
use Rattle.kr_store.specs.declared.format.Check.{Check}
use Rattle.kr_store.specs.declared.format.Format.{Format}
use Rattle.kr_store.specs.declared.rows.Row.{Row}
use Rattle.kr_store.specs.declared.rows.RowRef.{RowRef}
use Rattle.kr_store.specs.declared.rows.RowRef.TheVariants as lent
use Rattle.kr_store.specs.declared.rows.LogRow.{LogRow}
use Rattle.kr_store.specs.declared.answers.StoreNo.{StoreNo}
use Rattle.kr_store.specs.declared.answers.StoreNo.TheVariants as no
use Rattle.kr_store.specs.declared.answers.PutNo.{PutNo}
use Rattle.kr_store.specs.declared.answers.PutNo.TheVariants as refused
use Rattle.kr_store.specs.Rows.{latest, live, revision_of, put_of, delete_of, check_in, put_at, log_row_at, IsRow}
use Rattle.kr_store.specs.File.{file_bytes, IsFile}
use Rattle.kr_store.specs.Breaches.{IsBreach}

-- its format, its rows, how long its file is and may be; what its tape tells, how often that
-- failed, and whether a write has failed since the last one that was done
pub record Kept : Type 0 where
  pub format : Format
  pub rows : List LogRow
  pub length : ℕ
  pub limit : ℕ
  pub told : Option (List ℕ)
  pub count : ℕ
  pub torn : Bool

-- the tape begins with the file of the rows, and ends with it unless a write has failed
abbrev pub Holds : Kept → Type 0
Holds store =
    (file : List ℕ) × IsFile store.format store.rows file
    × (store.length ≡ length file) × (length file ≤ store.limit)
    × IfSome store.told (λ bytes. (rest : List ℕ) × (bytes ≡ file ++ rest)
    × (store.torn ≡ false → rest ≡ []))

-- whether a tape wasn't loaded since it failed
abbrev pub load_failed : StoreNo → Bool
load_failed no.Failed = true
load_failed why = false

-- bytes that the tape may have are within the limit and have this first breach; so they are no
-- file, by a law of breaches
abbrev pub HasBreach : Option (List ℕ) → ℕ → StoreNo → Type 0
HasBreach told limit why =
    (bytes : List ℕ) × Agrees told bytes × (length bytes ≤ limit) × IsBreach bytes why

-- a tape was read: it was a file of the rows, as long as told and within the limit, or it was
-- longer, or else this is its first breach
abbrev pub Loads : {T : Type 0} → Option (List ℕ) → ℕ → Result Kept (StoreNo × T) → Type 0
Loads told limit (Ok store) =
    (bytes : List ℕ) × Agrees told bytes × (length bytes ≤ limit)
    × IsFile store.format store.rows bytes × (store.length ≡ length bytes)
Loads told limit (Err (no.TooLong, tape)) =
    (bytes : List ℕ) × Agrees told bytes × (limit < length bytes)
Loads told limit (Err (no.Failed, tape)) = ⊤
Loads told limit (Err (no.NoMemory, tape)) = ⊤
Loads told limit (Err (why, tape)) = HasBreach told limit why

-- how long the file is with one more row
abbrev pub length_with : Kept → LogRow → ℕ
length_with store row = length (file_bytes store.format (store.rows ++ row ∷ []))

-- the row was written, with this revision, and the tape didn't fail
pub record Wrote (old new : Kept) (row : LogRow) (revision : ℕ) : Type 0 where
  pub revision_is : revision ≡ length old.rows + 1
  pub rows : new.rows ≡ old.rows ++ row ∷ []
  pub format : new.format ≡ old.format
  pub limit : new.limit ≡ old.limit
  pub length : new.length ≡ length_with old row
  pub within : length_with old row ≤ old.limit
  pub whole : new.torn ≡ false
  pub later : old.count ≤ new.count
  pub same_count : new.count ≡ old.count

-- the tape failed, once; the rows are as before
pub record Fails (old new : Kept) (row : LogRow) : Type 0 where
  pub rows : new.rows ≡ old.rows
  pub format : new.format ≡ old.format
  pub limit : new.limit ≡ old.limit
  pub length : new.length ≡ old.length
  pub within : length_with old row ≤ old.limit
  pub torn : new.torn ≡ true
  pub rose : Rose old.count new.count
  pub later : old.count ≤ new.count
  pub once : new.count ≡ next_number old.count

-- why a row wasn't written
abbrev pub Refusal : Kept → Kept → LogRow → PutNo → Type 0
Refusal old new row refused.Failed = Fails old new row
Refusal old new row (refused.Full needed) =
    (new ≡ old) × (needed ≡ length_with old row) × (old.limit < needed)
Refusal old new row (refused.Changed revision) = ⊥
Refusal old new row refused.NoMemory = new ≡ old

abbrev pub Puts : Kept → Kept → LogRow → Result ℕ PutNo → Type 0
Puts old new row (Ok revision) = Wrote old new row revision
Puts old new row (Err why) = Refusal old new row why

-- a live row was deleted, or there is none; a refusal but want of memory comes only where there is
-- one
abbrev pub Deletes : Kept → Kept → List ℕ → Result (Option ℕ) PutNo → Type 0
Deletes old new path (Ok None) = (live old.rows path ≡ None) × (new ≡ old)
Deletes old new path (Ok (Some revision)) =
    IsSome (live old.rows path) × Wrote old new (delete_of path) revision
Deletes old new path (Err refused.NoMemory) = new ≡ old
Deletes old new path (Err refused.Failed) =
    IsSome (live old.rows path) × Fails old new (delete_of path)
Deletes old new path (Err (refused.Full needed)) =
    IsSome (live old.rows path) × Refusal old new (delete_of path) (refused.Full needed)
Deletes old new path (Err (refused.Changed revision)) = ⊥

-- the path's last row is a put with this revision
pub record IsLatestPut (rows : List LogRow) (path : List ℕ) (revision : ℕ) (row : Row)
    : Type 0 where
  pub is : live rows path ≡ Some row
  pub revision_is : row.revision ≡ revision

-- a row that takes the place of this one: for the same resource, with what the format keeps of the
-- check
abbrev pub put_over : Kept → Row → List ℕ → List ℕ → Check → LogRow
put_over store row path stored check =
    put_of path row.resource stored (check_in store.format check)

-- a row took the place of the one with this revision
abbrev pub Replaces : Kept → Kept → List ℕ → ℕ → List ℕ → Check → Result ℕ PutNo → Type 0
Replaces old new path revision stored check (Ok to) =
    (row : Row) × IsLatestPut old.rows path revision row
    × Wrote old new (put_over old row path stored check) to
Replaces old new path revision stored check (Err refused.NoMemory) = new ≡ old
Replaces old new path revision stored check (Err refused.Failed) =
    (row : Row) × IsLatestPut old.rows path revision row
    × Fails old new (put_over old row path stored check)
Replaces old new path revision stored check (Err (refused.Full needed)) =
    (row : Row) × IsLatestPut old.rows path revision row
    × Refusal old new (put_over old row path stored check) (refused.Full needed)
Replaces old new path revision stored check (Err (refused.Changed to)) =
    (to ≡ revision_of (latest old.rows path)) × (new ≡ old)
    × ((row : Row) → IsLatestPut old.rows path revision row → ⊥)

-- the live row with the least path above this one
abbrev pub IsNext : List LogRow → List ℕ → Option Row → Type 0
IsNext rows path None = (q : List ℕ) → IsSome (live rows q) → slice_cmp nat_cmp path q ≢ Less
IsNext rows path (Some row) =
    (slice_cmp nat_cmp path row.path ≡ Less) × (live rows row.path ≡ Some row)
    × ((q : List ℕ) → IsSome (live rows q) → slice_cmp nat_cmp path q ≡ Less
    → slice_cmp nat_cmp q row.path ≢ Less)

-- the row with this revision is lent: a put as it is handed out, a delete by its path
abbrev pub LendsRow : List LogRow → ℕ → Option RowRef → Type 0
LendsRow rows revision None = log_row_at rows revision ≡ None
LendsRow rows revision (Some (lent.Put row)) = put_at rows revision ≡ Some row.now
LendsRow rows revision (Some (lent.Delete path)) =
    log_row_at rows revision ≡ Some (delete_of path.now)

-- a row that is lent keeps the rules of its parts
abbrev pub IsLent : Format → RowRef → Type 0
IsLent format (lent.Put row) = IsRow format row.now
IsLent format (lent.Delete path) = IsPath path.now

-- the live rows, by their paths
pub record IsListing (rows : List LogRow) (listing : List Row) : Type 0 where
  pub sorted : IsStrictlySortedBy (slice_cmp nat_cmp) (map (λ row. row.path) listing)
  pub are_live : All (λ row. live rows row.path ≡ Some row) listing
  pub whole : (path : List ℕ) (row : Row) → live rows path ≡ Some row → Contains listing row

-- how many rows are live
abbrev pub IsLiveCount : List LogRow → ℕ → Type 0
IsLiveCount rows count = (listing : List Row) × IsListing rows listing × (count ≡ length listing)
