-- The index over the rows of a store.
use Rattle.std.specs.Prelude.{◌≡◌, ℕ, Bool, true, false, List, Option, None, Some, is_some}
use Rattle.std.specs.Str.{bytes_eq}
use Rattle.std.specs.Map.{update, lookup}
use Rattle.std.specs.Ordering.{nat_cmp}
use Rattle.std.specs.declared.cmp.Ordering.TheVariants.{Less}
use Rattle.std.specs.Cmp.Lexicographic.{slice_cmp}
use Rattle.std.specs.BTreeMap.{is_at}
use Rattle.kr_paths.specs.Paths as paths
use Rattle.kr_store.specs.declared.rows.Change.{Change}
use Rattle.kr_store.specs.declared.rows.Change.TheVariants.{Put, Delete}
use Rattle.kr_store.specs.declared.rows.LogRow.{LogRow}
use Rattle.kr_store.specs.Rows.{latest}
use Rattle.kr_store.specs.File.{byte_kind}
use Rattle.kr_store.specs.declared.index.Index.{Index}
use Rattle.kr_store.specs.declared.kept_row.RowKind.{RowKind}
use Rattle.kr_store.specs.declared.kept_row.RowKind.TheVariants as kind
use Rattle.kr_store.specs.declared.kept_row.KeptRow.{KeptRow}
use Rattle.kr_store.specs.declared.kept_row.KeptRow.TheVariants as kept

-- the revision of the path's live row, and that of its last delete
abbrev pub live_at : Index → List ℕ → Option ℕ
live_at index path = lookup (is_at (paths.path_cmp path)) index.live

abbrev pub gone_at : Index → List ℕ → Option ℕ
gone_at index path = lookup (is_at (paths.path_cmp path)) index.gone

abbrev pub StandsAt : ℕ → Change → Option ℕ → Option ℕ → Type 0
StandsAt k (Put resource stored check) standing deleted = standing ≡ Some k
StandsAt k Delete standing deleted = (standing ≡ None) × (deleted ≡ Some k)

-- what the index has at a path is its last row; where that is live, the last delete counts for
-- nothing
abbrev pub Stands : Option (ℕ × LogRow) → Option ℕ → Option ℕ → Type 0
Stands None standing deleted = (standing ≡ None) × (deleted ≡ None)
Stands (Some found) standing deleted = StandsAt found.0 found.1.change standing deleted

abbrev pub IsIndexOf : List LogRow → Index → Type 0
IsIndexOf rows index =
    (path : List ℕ) → Stands (latest rows path) (live_at index path) (gone_at index path)

abbrev pub SetsLive : Index → Index → List ℕ → Option ℕ → Type 0
SetsLive old new path to =
    ((q : List ℕ) → live_at new q ≡ update bytes_eq (live_at old) path to q)
    × ((q : List ℕ) → gone_at new q ≡ gone_at old q)

abbrev pub SetsGone : Index → Index → List ℕ → Option ℕ → Type 0
SetsGone old new path to =
    ((q : List ℕ) → live_at new q ≡ live_at old q)
    × ((q : List ℕ) → gone_at new q ≡ update bytes_eq (gone_at old) path to q)

-- a row was added
abbrev pub AddsAs : Index → Index → ℕ → List ℕ → RowKind → Type 0
AddsAs old new k path kind.Put = SetsLive old new path (Some k)
AddsAs old new k path kind.Delete =
    ((q : List ℕ) → live_at new q ≡ update bytes_eq (live_at old) path None q)
    × ((q : List ℕ) → gone_at new q ≡ update bytes_eq (gone_at old) path (Some k) q)

abbrev pub Adds : Index → Index → ℕ → LogRow → Type 0
Adds old new k row = AddsAs old new k row.path (byte_kind row.change)

-- at most the last delete of this path is another
abbrev pub SameBut : Index → Index → List ℕ → Type 0
SameBut old new path =
    ((q : List ℕ) → live_at new q ≡ live_at old q)
    × ((q : List ℕ) → bytes_eq path q ≡ false → gone_at new q ≡ gone_at old q)

abbrev pub Same : Index → Index → Type 0
Same old new =
    ((q : List ℕ) → live_at new q ≡ live_at old q)
    × ((q : List ℕ) → gone_at new q ≡ gone_at old q)

-- the index has the same rows; the last delete of a live path counts for nothing, so a delete may
-- have changed it
abbrev pub StaysAs : Index → Index → List ℕ → RowKind → Type 0
StaysAs old new path kind.Put = Same old new
StaysAs old new path kind.Delete = SameBut old new path

-- whether a row may stand behind the indexed rows: a delete needs a live row
abbrev pub allows : Index → KeptRow → Bool
allows index (kept.Put row) = true
allows index (kept.Delete path) = is_some (live_at index path)

-- the revision of the live row with the least path above this one
abbrev pub IsNextIn : Index → List ℕ → Option ℕ → Type 0
IsNextIn index path None =
    (q : List ℕ) → slice_cmp nat_cmp path q ≡ Less → live_at index q ≡ None
IsNextIn index path (Some revision) =
    (above : List ℕ) × (slice_cmp nat_cmp path above ≡ Less) × (live_at index above ≡ Some revision)
    × ((q : List ℕ) → slice_cmp nat_cmp path q ≡ Less → slice_cmp nat_cmp q above ≡ Less
    → live_at index q ≡ None)
