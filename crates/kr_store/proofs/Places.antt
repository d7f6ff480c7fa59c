-- Rows by their revisions, and the last row of a path among them.
use Rattle.std.proofs.Common.{◌≡◌, ℕ, suc, zero, ◌+◌, ◌-◌, ◌<◌, ◌≤◌, Bool, true, false, if◌then◌else◌, List, [], ◌∷◌, ◌++◌, length, take, get_or, slice_get, Option, None, Some, refl, sym, ◌∙◌, ap, subst, arith, inl, inr, ◌⊎◌, append_assoc}
use Rattle.std.specs.Str.{bytes_eq}
use Rattle.std.proofs.lemmas.Slice.Eq.{bytes_eq-Decides}
use Rattle.std.specs.Option.{option_map}
use Rattle.std.proofs.lemmas.List.{append-nil}
use Rattle.std.proofs.lemmas.Option.{same_Some, none-some, slice_get-map, slice_get-get_or, slice_get_past}
use Rattle.kr_store.specs.declared.format.Format.{Format}
use Rattle.kr_store.specs.declared.rows.Row.{Row}
use Rattle.kr_store.specs.declared.rows.Change.{Change}
use Rattle.kr_store.specs.declared.rows.Change.TheVariants.{Put, Delete}
use Rattle.kr_store.specs.declared.rows.LogRow.{LogRow}
use Rattle.kr_store.specs.declared.rows.RowRef.{RowRef}
use Rattle.kr_store.specs.declared.rows.RowRef.TheVariants as lent
use Rattle.kr_base.specs.Rules.{IsPath}
use Rattle.kr_store.specs.Stores.{LendsRow, IsLent}
use Rattle.kr_store.specs.declared.kept_row.KeptRow.{KeptRow}
use Rattle.kr_store.specs.declared.kept_row.KeptRow.TheVariants as kept
use Rattle.kr_store.specs.Rows.{later, latest_from, latest, live, live_row, row_of, with_revision, put_at, log_row_at, delete_of, IsRow, MayFollow, AllFollow, AreRows}
use Rattle.kr_store.specs.inner.KeptRows.{log_row_of, log_rows_of, shared_row, IsKeptRow, AreKeptRows}
use Rattle.kr_store.specs.inner.Lending.{IsLentAs}
use Rattle.kr_store.proofs.Indexes.{bool_cases}

-- where the last row of a path stands, when the first of the rows has revision n
pub record StandsIn (n : ℕ) (rows : List LogRow) (path : List ℕ) (found : ℕ × LogRow)
    : Type 0 where
  pub first : n ≤ found.0
  pub item : slice_get rows (found.0 - n) ≡ Some found.1
  pub path_is : found.1.path ≡ path

one_more : (rows : List LogRow) (row : LogRow) (k n : ℕ) → n + 1 ≤ k
    → slice_get (row ∷ rows) (k - n) ≡ slice_get rows (k - (n + 1))
one_more rows row k n l =
    let m : k - n ≡ suc (k - (n + 1)) = omega arith in ap (λ i. slice_get (row ∷ rows) i) m

abbrev own : ℕ → LogRow → Bool → Option (ℕ × LogRow)
own n row here = if here then Some (n, row) else None

-- no later row has the path
no_later : (n : ℕ) (row : LogRow) (rows : List LogRow) (path : List ℕ) (here : Bool)
    → latest_from (n + 1) rows path ≡ None → bytes_eq row.path path ≡ here
    → latest_from n (row ∷ rows) path ≡ own n row here
no_later n row rows path here r h =
    ap (λ o. later o (own n row (bytes_eq row.path path))) r ∙ ap (own n row) h

pub found_in : (n : ℕ) (rows : List LogRow) (path : List ℕ) (found : ℕ × LogRow)
    → latest_from n rows path ≡ Some found → StandsIn n rows path found
found_in n [] path found e = cc
found_in n (x ∷ rows) path found e =
    by (latest_from (n + 1) rows path) refl (bool_cases (bytes_eq x.path path))
    (found_in (n + 1) rows path)
  where
    by : (rest : Option (ℕ × LogRow)) → latest_from (n + 1) rows path ≡ rest
        → (bytes_eq x.path path ≡ true) ⊎ (bytes_eq x.path path ≡ false)
        → ((f : ℕ × LogRow) → latest_from (n + 1) rows path ≡ Some f
        → StandsIn (n + 1) rows path f) → StandsIn n (x ∷ rows) path found
    by (Some f) r b again =
        let same : f ≡ found = same_Some f found
        (sym (ap (λ o. later o (own n x (bytes_eq x.path path))) r) ∙ e) in
        let s = again f r in
        subst (λ (z : ℕ × LogRow). StandsIn n (x ∷ rows) path z) same (record {
          first = omega (arith, s.first);
          item = one_more rows x f.0 n s.first ∙ s.item;
          path_is = s.path_is;
        })
    by None r (inl b) again =
        let same : (n, x) ≡ found = same_Some (n, x) found (sym (no_later n x rows path true r b)
        ∙ e) in
        subst (λ (z : ℕ × LogRow). StandsIn n (x ∷ rows) path z) same (record {
          first = omega arith;
          item = ap (λ i. slice_get (x ∷ rows) i) (let z : n - n ≡ 0 = omega arith in z);
          path_is = (bytes_eq-Decides x.path path).0 b;
        })
    by None r (inr b) again = absurd (none-some found (sym (no_later n x rows path false r b) ∙ e))

-- rows by their revisions

at_next : (rows : List LogRow) (k n : ℕ) (row : LogRow) → k ≡ suc n
    → slice_get rows n ≡ Some row → put_at rows k ≡ row_of k row.path row.change
at_next rows k n row e g =
    ap (put_at rows) e ∙ ap (λ o. live_row (with_revision (suc n) o)) g
    ∙ ap (λ i. row_of i row.path row.change) (sym e)

-- what a put is handed out as
parts_of : (k : ℕ) (path : List ℕ) (change : Change) (row : Row) → row_of k path change ≡ Some row
    → (row.revision ≡ k) × (row.path ≡ path)
parts_of k path (Put resource stored check) row e =
    let made : Row = record {
      path = path;
      resource = resource;
      revision = k;
      stored = stored;
      check = check;
    } in
    let same : made ≡ row = same_Some made row e in
    (sym (ap (λ (r : Row). r.revision) same), sym (ap (λ (r : Row). r.path) same))
parts_of k path Delete row e = absurd (none-some row e)

pub live_at_revision : (rows : List LogRow) (path : List ℕ) (row : Row)
    → live rows path ≡ Some row
    → (put_at rows row.revision ≡ Some row) × (row.path ≡ path)
live_at_revision rows path row e = by (latest rows path) refl e
  where
    by : (found : Option (ℕ × LogRow)) → latest rows path ≡ found → live_row found ≡ Some row
        → (put_at rows row.revision ≡ Some row) × (row.path ≡ path)
    by None r e = absurd (none-some row e)
    by (Some found) r e =
        let s = found_in 1 rows path found r in
        let parts = parts_of found.0 found.1.path found.1.change row e in (
          ap (put_at rows) parts.0
              ∙ at_next rows found.0 (found.0 - 1) found.1 (omega (arith, s.first)) s.item ∙ e,
          parts.1 ∙ s.path_is,
        )

front_stays : (rows more : List LogRow) (n : ℕ) → n < length rows
    → slice_get (rows ++ more) n ≡ slice_get rows n
front_stays [] more n l = absurd (omega (arith, l))
front_stays (row ∷ rows) more zero l = refl
front_stays (row ∷ rows) more (suc n) l = front_stays rows more n (omega (arith, l))

pub row_stays : (rows more : List LogRow) (k : ℕ) → k ≤ length rows
    → put_at (rows ++ more) k ≡ put_at rows k
row_stays rows more zero l = refl
row_stays rows more (suc n) l =
    ap (λ o. live_row (with_revision (suc n) o)) (front_stays rows more n (omega (arith, l)))

-- a row may stand behind those before it
pub follows_at : (format : Format) (before rows : List LogRow) (k : ℕ) (row : LogRow)
    → AllFollow format before rows → slice_get rows k ≡ Some row
    → MayFollow format (before ++ take k rows) row
follows_at format before [] k row f e = absurd (none-some row e)
follows_at format before (x ∷ rows) zero row f e =
    subst (λ (r : LogRow). MayFollow format (before ++ []) r) (same_Some x row e)
    (subst (λ (b : List LogRow). MayFollow format b x) (sym (append-nil before)) f.0)
follows_at format before (x ∷ rows) (suc k) row f e =
    subst (λ (b : List LogRow). MayFollow format b row)
    (append_assoc before (x ∷ []) (take k rows))
    (follows_at format (before ++ x ∷ []) rows k row f.1 e)

pub row_follows : (format : Format) (rows : List LogRow) (revision : ℕ) (row : LogRow)
    → AreRows format rows → log_row_at rows revision ≡ Some row
    → MayFollow format (take (revision - 1) rows) row
row_follows format rows zero row f e = absurd (none-some row e)
row_follows format rows (suc k) row f e =
    subst (λ n. MayFollow format (take n rows) row) (let s : k ≡ suc k - 1 = omega arith in s)
    (follows_at format [] rows k row f e)

-- what is kept of a row

row_shared : (format : Format) (k : ℕ) (row : KeptRow) → IsKeptRow format k row
    → shared_row row ≡ row_of k (log_row_of row).path (log_row_of row).change
row_shared format k (kept.Put row) i = ap (λ n. Some (record {
  path = row.path;
  resource = row.resource;
  revision = n;
  stored = row.stored;
  check = row.check;
})) i.1
row_shared format k (kept.Delete path) i = refl

-- the kept row with this place
pub record IsKeptAt (format : Format) (k : ℕ) (row : LogRow) (kept_row : KeptRow) : Type 0 where
  pub rule : IsKeptRow format k kept_row
  pub row_is : log_row_of kept_row ≡ row

pub kept_at : (format : Format) (n : ℕ) (rows : List KeptRow) (j : ℕ) (row : LogRow)
    (d : KeptRow) → AreKeptRows format n rows → slice_get (log_rows_of rows) j ≡ Some row
    → IsKeptAt format (n + j) row (get_or rows j d)
kept_at format n [] j row d all e = absurd (none-some row e)
kept_at format n (x ∷ rows) zero row d all e = record {
  rule = subst (λ k. IsKeptRow format k x) (omega arith) all.0;
  row_is = same_Some (log_row_of x) row e;
}
kept_at format n (x ∷ rows) (suc j) row d all e =
    let again = kept_at format (n + 1) rows j row d all.1 e in
    subst (λ k. IsKeptAt format k row (get_or rows j d)) (omega arith) again

-- and how it is shared
pub kept_shared : (format : Format) (k : ℕ) (row : LogRow) (kept_row : KeptRow)
    → IsKeptAt format k row kept_row → shared_row kept_row ≡ row_of k row.path row.change
kept_shared format k row kept_row i =
    row_shared format k kept_row i.rule ∙ ap (λ (r : LogRow). row_of k r.path r.change) i.row_is

-- a kept row that is lent

pub kept_rule : (format : Format) (n : ℕ) (rows : List KeptRow) (j : ℕ) (d : KeptRow)
    → AreKeptRows format n rows → j < length rows → IsKeptRow format (n + j) (get_or rows j d)
kept_rule format n [] j d all l = absurd (omega arith)
kept_rule format n (x ∷ rows) zero d all l =
    subst (λ k. IsKeptRow format k x) (omega arith) all.0
kept_rule format n (x ∷ rows) (suc j) d all l =
    subst (λ k. IsKeptRow format k (get_or rows j d)) (omega arith)
    (kept_rule format (n + 1) rows j d all.1 (omega arith))

abbrev some_row : LogRow → Option LogRow
some_row row = Some row

log_at : (rows : List KeptRow) (j : ℕ) (d row : KeptRow) → j < length rows
    → get_or rows j d ≡ row → slice_get (log_rows_of rows) j ≡ Some (log_row_of row)
log_at rows j d row l e =
    slice_get-map log_row_of rows j ∙ ap (option_map log_row_of) (slice_get-get_or rows j d l)
    ∙ ap (λ (r : KeptRow). some_row (log_row_of r)) e

lent_rule : (format : Format) (rows : List KeptRow) (k : ℕ) (d row : KeptRow)
    → 1 ≤ k → k - 1 < length rows → AreKeptRows format 1 rows
    → get_or rows (k - 1) d ≡ row → IsKeptRow format k row
lent_rule format rows k d row l m all e =
    let is : 1 + (k - 1) ≡ k = omega (arith, l) in
    subst (λ i. IsKeptRow format i row) is
    (subst (λ (r : KeptRow). IsKeptRow format (1 + (k - 1)) r) e
    (kept_rule format 1 rows (k - 1) d all m))

lends_put : (format : Format) (rows : List KeptRow) (k : ℕ) (d : KeptRow) (row : Row)
    → 1 ≤ k → k - 1 < length rows → AreKeptRows format 1 rows
    → get_or rows (k - 1) d ≡ kept.Put row → put_at (log_rows_of rows) k ≡ Some row
lends_put format rows k d row l m all e =
    let put : LogRow = log_row_of (kept.Put row) in
    at_next (log_rows_of rows) k (k - 1) put (omega (arith, l))
    (log_at rows (k - 1) d (kept.Put row) m e)
    ∙ sym (row_shared format k (kept.Put row)
    (lent_rule format rows k d (kept.Put row) l m all e))

log_row_found : (rows : List LogRow) (k : ℕ) → 1 ≤ k → log_row_at rows k ≡ slice_get rows (k - 1)
log_row_found rows k l =
    ap (log_row_at rows) (let s : k ≡ suc (k - 1) = omega (arith, l) in s)

lends_delete : (rows : List KeptRow) (k : ℕ) (d : KeptRow) (path : List ℕ) → 1 ≤ k
    → k - 1 < length rows → get_or rows (k - 1) d ≡ kept.Delete path
    → log_row_at (log_rows_of rows) k ≡ Some (delete_of path)
lends_delete rows k d path l m e =
    log_row_found (log_rows_of rows) k l ∙ log_at rows (k - 1) d (kept.Delete path) m e

-- a row is lent as it is kept
pub lends_row : (format : Format) (rows : List KeptRow) (k : ℕ) (row : KeptRow) (found : RowRef)
    → 1 ≤ k → k - 1 < length rows → AreKeptRows format 1 rows
    → get_or rows (k - 1) row ≡ row → IsLentAs row found
    → LendsRow (log_rows_of rows) k (Some found) × IsLent format found
lends_row format rows k (kept.Put row) (lent.Put found) l m all e is = (
  lends_put format rows k (kept.Put row) row l m all e ∙ ap (λ (z : Row). Some z) (sym is),
  subst (IsRow format) (sym is) (lent_rule format rows k (kept.Put row) (kept.Put row) l m all e).0,
)
lends_row format rows k (kept.Delete path) (lent.Delete found) l m all e is = (
  lends_delete rows k (kept.Delete path) path l m e ∙ ap (λ p. Some (delete_of p)) (sym is),
  subst IsPath (sym is) (lent_rule format rows k (kept.Delete path) (kept.Delete path) l m all e),
)
lends_row format rows k row found l m all e is = absurd is

pub lends_none : (rows : List KeptRow) (k : ℕ) → 1 ≤ k → length rows ≤ k - 1
    → log_row_at (log_rows_of rows) k ≡ None
lends_none rows k l m =
    log_row_found (log_rows_of rows) k l ∙ slice_get-map log_row_of rows (k - 1)
    ∙ ap (option_map log_row_of) (slice_get_past rows (k - 1) m)
