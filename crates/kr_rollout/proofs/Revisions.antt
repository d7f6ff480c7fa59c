-- Rows by their revisions, and that more rows and generations change none of those that are there.
use Rattle.std.proofs.Common.{◌≡◌, ℕ, zero, suc, ◌<◌, ◌≤◌, ◌+◌, ◌-◌, List, [], ◌∷◌, ◌++◌, length, Option, None, Some, IfSome, refl, sym, ap, arith}
use Rattle.std.specs.List.{slice_get}
use Rattle.std.specs.Option.{option_map}
use Rattle.std.proofs.lemmas.Option.{none-some, same_Some, slice_get_within}
use Rattle.kr_store.specs.declared.rows.LogRow.{LogRow}
use Rattle.kr_store.specs.declared.rows.Row.{Row}
use Rattle.kr_store.specs.declared.rows.Change.{Change}
use Rattle.kr_store.specs.declared.rows.Change.TheVariants as change
use Rattle.kr_store.specs.Rows.{live, live_row, row_of, with_revision, put_at}
use Rattle.kr_store.proofs.Places.{live_at_revision}
use Rattle.kr_opening.specs.declared.generation.Generation.{Generation}
use Rattle.kr_rollout.specs.Entries.{published_at}

pub get_front : {X : Type 0} (xs ys : List X) (k : ℕ) → k < length xs
    → slice_get (xs ++ ys) k ≡ slice_get xs k
get_front [] ys k l = absurd (omega arith)
get_front (x ∷ xs) ys zero l = refl
get_front (x ∷ xs) ys (suc k) l = get_front xs ys k (omega arith)

pub published_front : (generations more : List Generation) (number : Option ℕ)
    → IfSome number (λ n. n < length generations)
    → published_at (generations ++ more) number ≡ published_at generations number
published_front generations more None l = refl
published_front generations more (Some n) l =
    ap (option_map (λ g. g.published)) (get_front generations more n l)

pub revision_is : (n : ℕ) (path : List ℕ) (c : Change) (row : Row) → row_of n path c ≡ Some row
    → (row.revision ≡ n) × (row.path ≡ path)
revision_is n path (change.Put resource stored check) row e = let r =
    sym (same_Some _ row e) in (ap (λ (x : Row). x.revision) r, ap (λ (x : Row). x.path) r)
revision_is n path change.Delete row e = absurd (none-some row e)

-- a row that there is stands at its revision
pub at_within : (rows : List LogRow) (k : ℕ) (row : Row) → put_at rows k ≡ Some row
    → k ≤ length rows
at_within rows zero row e = omega arith
at_within rows (suc k) row e = by (slice_get rows k) refl e
  where
    by : (o : Option LogRow) → slice_get rows k ≡ o → live_row (with_revision (suc k) o) ≡ Some row
        → suc k ≤ length rows
    by None is e = absurd (none-some row e)
    by (Some own) is e = omega (arith, slice_get_within rows k own is)

-- a live row is that of its revision
pub record IsAtRevision (rows : List LogRow) (path : List ℕ) (row : Row) : Type 0 where
  pub row_is : put_at rows row.revision ≡ Some row
  pub within : row.revision ≤ length rows
  pub path_is : row.path ≡ path

pub live_at : (rows : List LogRow) (path : List ℕ) (row : Row) → live rows path ≡ Some row
    → IsAtRevision rows path row
live_at rows path row e = let at = live_at_revision rows path row e in
    record {
      row_is = at.0;
      within = at_within rows row.revision row at.0;
      path_is = at.1;
    }
