-- The last row of each path, and the index of them.
use Rattle.std.proofs.Common.{◌≡◌, ℕ, ◌+◌, Bool, true, false, cond, List, [], ◌∷◌, ◌++◌, length, Option, None, Some, is_some, refl, sym, ◌∙◌, ap, subst, arith, inl, inr, ◌⊎◌}
use Rattle.std.specs.Str.{bytes_eq}
use Rattle.kr_store.specs.declared.format.Format.{Format}
use Rattle.kr_store.specs.declared.rows.Change.{Change}
use Rattle.kr_store.specs.declared.rows.Change.TheVariants.{Put, Delete}
use Rattle.kr_store.specs.declared.rows.LogRow.{LogRow}
use Rattle.kr_store.specs.Rows.{latest_from, latest, live_row, row_of, MayChange}
use Rattle.kr_store.specs.inner.KeptRows.{log_row_of}
use Rattle.kr_store.specs.File.{byte_kind}
use Rattle.kr_store.specs.Breaches.{may_change}
use Rattle.kr_store.specs.inner.Index.{IsIndexOf, Stands, StandsAt, Adds, AddsAs, allows, live_at, gone_at}
use Rattle.kr_store.specs.declared.index.Index.{Index}
use Rattle.kr_store.specs.declared.kept_row.KeptRow.{KeptRow}
use Rattle.kr_store.specs.declared.kept_row.KeptRow.TheVariants as kept

-- a row behind the others is the last of its path
latest_here : (k : ℕ) (rows : List LogRow) (line : LogRow) (path : List ℕ)
    → bytes_eq line.path path ≡ true → latest_from k (rows ++ line ∷ []) path ≡ Some
    (k + length rows, line)
latest_here k [] line path e = rw e (ap (λ n. Some (n, line)) (omega arith))
latest_here k (row ∷ rows) line path e = rw (latest_here (k + 1) rows line path e)
    (ap (λ n. Some (n, line)) (omega arith))

-- and changes nothing at others
latest_other : (k : ℕ) (rows : List LogRow) (line : LogRow) (path : List ℕ)
    → bytes_eq line.path path ≡ false → latest_from k (rows ++ line ∷ []) path ≡ latest_from k rows
    path
latest_other k [] line path e = rw e refl
latest_other k (row ∷ rows) line path e = rw (latest_other (k + 1) rows line path e) refl

added_at : (old new : Index) (k : ℕ) (path q : List ℕ) (change : Change) → AddsAs old new k path
    (byte_kind change) → bytes_eq path q ≡ true → StandsAt k change (live_at new q) (gone_at new q)
added_at old new k path q (Put resource stored check) a e = a.0 q
    ∙ ap (λ b. cond b (Some k) (live_at old q)) e
added_at old new k path q Delete a e = (
  a.0 q ∙ ap (λ b. cond b None (live_at old q)) e,
  a.1 q
      ∙ ap (λ b. cond b (Some k) (gone_at old q)) e,
)

kept_live : (old new : Index) (k : ℕ) (path q : List ℕ) (change : Change) → AddsAs old new k path
    (byte_kind change) → bytes_eq path q ≡ false → live_at new q ≡ live_at old q
kept_live old new k path q (Put resource stored check) a e = a.0 q
    ∙ ap (λ b. cond b (Some k) (live_at old q)) e
kept_live old new k path q Delete a e = a.0 q ∙ ap (λ b. cond b None (live_at old q)) e

kept_gone : (old new : Index) (k : ℕ) (path q : List ℕ) (change : Change) → AddsAs old new k path
    (byte_kind change) → bytes_eq path q ≡ false → gone_at new q ≡ gone_at old q
kept_gone old new k path q (Put resource stored check) a e = a.1 q
kept_gone old new k path q Delete a e = a.1 q ∙ ap (λ b. cond b (Some k) (gone_at old q)) e

pub bool_cases : (b : Bool) → (b ≡ true) ⊎ (b ≡ false)
bool_cases true = inl refl
bool_cases false = inr refl

pub stands_as : (found : Option (ℕ × LogRow)) (l m g h : Option ℕ) → l ≡ m → g ≡ h
    → Stands found m h → Stands found l g
stands_as found l m g h e f s = subst (λ x. Stands found x g) (sym e)
    (subst (λ y. Stands found m y) (sym f) s)

-- a row was added to the index
pub adds_indexed : (rows : List LogRow) (line : LogRow) (old new : Index) (k : ℕ)
    → k ≡ length rows + 1 → Adds old new k line → IsIndexOf rows old
    → IsIndexOf (rows ++ line ∷ []) new
adds_indexed rows line old new k e a i q = elim (bool_cases (bytes_eq line.path q)) [
  | inl same ↦ subst (λ found. Stands found (live_at new q) (gone_at new q))
      (sym (latest_here 1 rows line q same ∙ ap (λ n. Some (n, line)) (omega arith)))
      (added_at old new k line.path q line.change a same)
  | inr other ↦ subst (λ found. Stands found (live_at new q) (gone_at new q))
      (sym (latest_other 1 rows line q other))
      (stands_as (latest rows q) (live_at new q) (live_at old q) (gone_at new q) (gone_at old q)
      (kept_live old new k line.path q line.change a other)
      (kept_gone old new k line.path q line.change a other) (i q))
]

-- the index has a live row where the rows have
some_at : (k : ℕ) (path : List ℕ) (change : Change) (l g : Option ℕ) → StandsAt k change l g
    → is_some l ≡ is_some (row_of k path change)
some_at k path (Put resource stored check) l g s = ap is_some s
some_at k path Delete l g s = ap is_some s.0

pub some_live : (found : Option (ℕ × LogRow)) (l g : Option ℕ) → Stands found l g
    → is_some l ≡ is_some (live_row found)
some_live None l g s = ap is_some s.0
some_live (Some found) l g s = some_at found.0 found.1.path found.1.change l g s

pub allowed : (rows : List LogRow) (index : Index) (e : KeptRow) → IsIndexOf rows index
    → allows index e ≡ may_change rows (log_row_of e).path (log_row_of e).change
allowed rows index (kept.Put row) i = refl
allowed rows index (kept.Delete path) i = some_live (latest rows path) (live_at index path)
    (gone_at index path) (i path)

-- a change that may stand there is permitted
pub change_permitted : (format : Format) (before : List LogRow) (path : List ℕ)
    (change : Change) → MayChange format before path change
    → may_change before path change ≡ true
change_permitted format before path (Put resource stored check) m = refl
change_permitted format before path Delete m = m
