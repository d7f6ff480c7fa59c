-- The rows that the index leads to.
use Rattle.std.proofs.Common.{◌≡◌, ℕ, ◌+◌, ◌-◌, ◌≤◌, true, false, List, [], length, get_or, Option, None, Some, is_some, IsSome, IfSome, IfOk, Result, Ok, Err, refl, sym, ◌∙◌, ap, subst, arith}
use Rattle.std.specs.Ordering.{nat_cmp}
use Rattle.std.specs.declared.cmp.Ordering.TheVariants.{Less}
use Rattle.std.specs.Cmp.Lexicographic.{slice_cmp}
use Rattle.std.proofs.lemmas.Option.{same_Some, none-some, slice_get_within}
use Rattle.kr_store.specs.declared.format.Check.{Check}
use Rattle.kr_store.specs.declared.format.Format.{Format}
use Rattle.kr_store.specs.declared.rows.Row.{Row}
use Rattle.kr_store.specs.declared.rows.Change.{Change}
use Rattle.kr_store.specs.declared.rows.Change.TheVariants.{Put, Delete}
use Rattle.kr_store.specs.declared.rows.LogRow.{LogRow}
use Rattle.kr_store.specs.declared.index.Index.{Index}
use Rattle.kr_store.specs.declared.kept_row.KeptRow.{KeptRow}
use Rattle.kr_store.specs.declared.kept_row.KeptRow.TheVariants as kept
use Rattle.kr_store.specs.declared.answers.PutNo.{PutNo}
use Rattle.kr_store.specs.declared.answers.PutNo.TheVariants as refused
use Rattle.kr_store.specs.Rows.{IsRow, latest, live, live_row, row_of, put_of, delete_of, check_in}
use Rattle.kr_store.specs.Stores.{IsNext, Kept, IsLatestPut, Puts, Deletes, Replaces, put_over}
use Rattle.kr_store.specs.inner.KeptRows.{log_rows_of, shared_row, IsKeptRow, AreKeptRows}
use Rattle.kr_store.specs.inner.Index.{IsIndexOf, Stands, StandsAt, live_at, gone_at}
use Rattle.kr_store.specs.inner.Log.{Tail}
use Rattle.kr_store.specs.inner.Store.{IsStore}
use Rattle.kr_store.proofs.Indexes.{some_live}
use Rattle.kr_store.proofs.Loading.{log_rows_length}
use Rattle.kr_store.proofs.Places.{found_in, kept_at, kept_shared, kept_rule, live_at_revision}
use Rattle.kr_store.proofs.Written.{was_live}

-- the live row of a path, by its revision in the index
pub record IsShared (rows : List KeptRow) (path : List ℕ) (revision : ℕ) : Type 0 where
  pub first : 1 ≤ revision
  pub last : revision ≤ length rows
  pub shares : (d : KeptRow)
      → shared_row (get_or rows (revision - 1) d) ≡ live (log_rows_of rows) path

by_change : (k revision : ℕ) (change : Change) (l g : Option ℕ) → StandsAt k change l g
    → l ≡ Some revision → k ≡ revision
by_change k revision (Put resource stored check) l g s e = let x : Some k ≡ Some revision = sym s
    ∙ e in cc
by_change k revision Delete l g s e = let x : None ≡ Some revision = sym s.0 ∙ e in cc

shared_by : (format : Format) (rows : List KeptRow) (index : Index) (path : List ℕ)
    (revision : ℕ) → AreKeptRows format 1 rows → IsIndexOf (log_rows_of rows) index
    → live_at index path ≡ Some revision → IsShared rows path revision
shared_by format rows index path revision all i e = by (latest (log_rows_of rows) path) refl
    (i path)
  where
    by : (found : Option (ℕ × LogRow)) → latest (log_rows_of rows) path ≡ found
        → Stands found (live_at index path) (gone_at index path) → IsShared rows path revision
    by None r s = let x : None ≡ Some revision = sym s.0 ∙ e in cc
    by (Some found) r s =
        let k : found.0 ≡ revision = by_change found.0 revision found.1.change
        (live_at index path) (gone_at index path) s e in
        let stands = found_in 1 (log_rows_of rows) path found r in
        let size = slice_get_within (log_rows_of rows) (found.0 - 1) found.1 stands.item in
        let is : 1 + (found.0 - 1) ≡ found.0 = omega (arith, stands.first) in
        record {
          first = omega (arith, stands.first);
          last = omega (arith, size, stands.first, log_rows_length rows);
          shares = λ d.
              ap (λ n. shared_row (get_or rows (n - 1) d)) (sym k)
              ∙ kept_shared format (1 + (found.0 - 1)) found.1 (get_or rows (found.0 - 1) d)
              (kept_at format 1 rows (found.0 - 1) found.1 d all stands.item)
              ∙ ap (λ n. row_of n found.1.path found.1.change) is ∙ sym (ap live_row r);
        }

pub shared_at : {format : Format} {rows : List KeptRow} {index : Index} {limit : ℕ} {log : Tail}
    → IsStore format rows index limit log → (path : List ℕ) {revision : ℕ}
    → live_at index path ≡ Some revision → IsShared rows path revision
shared_at {format} {rows} {index} store path {revision} e =
    shared_by format rows index path revision store.kept_rows store.indexed e

-- its place is within the slice of the rows
pub lies_in : {slice rows : List KeptRow} {path : List ℕ} {revision : ℕ}
    → IsShared rows path revision → slice ≡ rows → (1 ≤ revision) × (revision ≤ length slice)
lies_in shared same =
    (shared.first, omega (arith, shared.last, ap (λ (l : List KeptRow). length l) same))

pub not_live : (rows : List LogRow) (index : Index) (q : List ℕ) → IsIndexOf rows index
    → live_at index q ≡ None → IsSome (live rows q) → ⊥
not_live rows index q i e s = let x : false ≡ true = sym (ap is_some e) ∙ some_live (latest rows q)
    (live_at index q) (gone_at index q) (i q) ∙ s in cc

-- what was shared is what the index leads to
pub shares_it : {E : Type 0} (r : Result (Option Row) E) (slice : List KeptRow)
    {rows : List KeptRow} (k : ℕ) (target : Option Row)
    → IfOk r (λ found. (d : KeptRow) → found ≡ shared_row (get_or slice k d)) → slice ≡ rows
    → ((d : KeptRow) → shared_row (get_or rows k d) ≡ target) → IfOk r (λ found. found ≡ target)
shares_it (Ok found) slice k target h is t =
    h (kept.Delete []) ∙ ap (λ l. shared_row (get_or l k (kept.Delete []))) is
    ∙ t (kept.Delete [])
shares_it (Err e) slice k target h is t = tt

pub shares_next : {E : Type 0} (r : Result (Option Row) E) (lines : List LogRow) (path : List ℕ)
    (target : Option Row) → IfOk r (λ found. found ≡ target)
    → IsNext lines path target → IfOk r (λ found. IsNext lines path found)
shares_next (Ok found) lines path target h n = subst (λ t. IsNext lines path t) (sym h) n
shares_next (Err e) lines path target h n = tt

pub shares_rules : {E : Type 0} (format : Format) (r : Result (Option Row) E)
    (slice : List KeptRow) {rows : List KeptRow} (k : ℕ) (row : Row)
    → IfOk r (λ found. (d : KeptRow) → found ≡ shared_row (get_or slice k d)) → slice ≡ rows
    → ((d : KeptRow) → shared_row (get_or rows k d) ≡ Some row) → IsRow format row
    → IfOk r (λ found. IfSome found (IsRow format))
shares_rules format (Ok found) slice k row h is t i =
    subst (λ o. IfSome o (IsRow format))
    (sym (h (kept.Delete []) ∙ ap (λ l. shared_row (get_or l k (kept.Delete []))) is
    ∙ t (kept.Delete []))) i
shares_rules format (Err e) slice k row h is t i = tt

-- the next row in the index is the next one of the rows
pub next_is : (rows : List KeptRow) (index : Index) (path above : List ℕ) (revision : ℕ)
    → IsIndexOf (log_rows_of rows) index → slice_cmp nat_cmp path above ≡ Less
    → live_at index above ≡ Some revision
    → ((q : List ℕ) → slice_cmp nat_cmp path q ≡ Less → slice_cmp nat_cmp q above ≡ Less
    → live_at index q ≡ None)
    → IsNext (log_rows_of rows) path (live (log_rows_of rows) above)
next_is rows index path above revision i less at least =
    by (live (log_rows_of rows) above) refl (was_live (log_rows_of rows) index above revision i at)
  where
    by : (found : Option Row) → live (log_rows_of rows) above ≡ found
        → IsSome (live (log_rows_of rows) above) → IsNext (log_rows_of rows) path found
    by None e s = let x : false ≡ true = sym (ap is_some e) ∙ s in cc
    by (Some row) e s =
        let same : row.path ≡ above = (live_at_revision (log_rows_of rows) above row e).1 in (
          subst (λ z. slice_cmp nat_cmp path z ≡ Less) (sym same) less,
          subst (λ z. live (log_rows_of rows) z ≡ Some row) (sym same) e,
          λ q s' pq qr. not_live (log_rows_of rows) index q i
              (least q pq (subst (λ z. slice_cmp nat_cmp q z ≡ Less) same qr)) s',
        )

kept_row_rules : (format : Format) (k : ℕ) (e : KeptRow) (row : Row) → IsKeptRow format k e
    → shared_row e ≡ Some row → IsRow format row × (row.revision ≡ k)
kept_row_rules format k (kept.Put r) row i e =
    let same : r ≡ row = same_Some r row e in
    subst (λ (z : Row). IsRow format z × (z.revision ≡ k)) same i
kept_row_rules format k (kept.Delete path) row i e = absurd (none-some row e)

-- the live row that an index leads to
pub record IsPutAt (format : Format) (rows : List KeptRow) (path : List ℕ) (revision : ℕ)
    (row : Row) : Type 0 where
  pub is : live (log_rows_of rows) path ≡ Some row
  pub revision_is : row.revision ≡ revision
  pub rules : IsRow format row
  pub shares : (d : KeptRow) → shared_row (get_or rows (revision - 1) d) ≡ Some row

pub put_at : {format : Format} {rows : List KeptRow} {index : Index} {limit : ℕ} {log : Tail}
    → IsStore format rows index limit log → (path : List ℕ) {revision : ℕ}
    → live_at index path ≡ Some revision → (row : Row) × IsPutAt format rows path revision row
put_at {format} {rows} {index} store path {revision} e =
    by (live (log_rows_of rows) path) refl
    (was_live (log_rows_of rows) index path revision store.indexed e) (shared_at store path e)
  where
    by : (found : Option Row) → live (log_rows_of rows) path ≡ found → IsSome found
        → IsShared rows path revision → (row : Row) × IsPutAt format rows path revision row
    by None r s h = cc
    by (Some row) r s h =
        let d : KeptRow = kept.Delete [] in
        let rules = kept_row_rules format (1 + (revision - 1)) (get_or rows (revision - 1) d) row
        (kept_rule format 1 rows (revision - 1) d store.kept_rows (omega (arith, h.first, h.last)))
        (h.shares d ∙ r) in (
          row,
          record {
            is = r;
            revision_is = omega (arith, rules.1, h.first);
            rules = rules.0;
            shares = λ d. h.shares d ∙ r;
          },
        )

-- the names that were told of the row at a place are its own
pub names_at : {slice rows : List KeptRow} (k : ℕ) (row : Row) (own resource : List ℕ)
    → ((d : KeptRow) → IfSome (shared_row (get_or slice k d))
    (λ (row : Row). (row.path ≡ own) × (row.resource ≡ resource)))
    → slice ≡ rows → ((d : KeptRow) → shared_row (get_or rows k d) ≡ Some row)
    → (row.path ≡ own) × (row.resource ≡ resource)
names_at k row own resource names is shares =
    let d : KeptRow = kept.Delete [] in
    subst (λ o. IfSome o (λ (row : Row). (row.path ≡ own) × (row.resource ≡ resource)))
    (ap (λ (l : List KeptRow). shared_row (get_or l k d)) is ∙ shares d) (names d)

-- a put for the row's resource replaces the row
pub replaces_by : (old new : Kept) (path : List ℕ) (revision : ℕ) (stored : List ℕ)
    (check : Check) (resource : List ℕ) (row : Row) (result : Result ℕ PutNo)
    → IsLatestPut old.rows path revision row → row.resource ≡ resource
    → Puts old new (put_of path resource stored (check_in old.format check)) result
    → Replaces old new path revision stored check result
replaces_by old new path revision stored check resource row result l e p =
    by result (subst (λ r. Puts old new (put_of path r stored (check_in old.format check)) result)
    (sym e) p)
  where
    by : (result : Result ℕ PutNo) → Puts old new (put_over old row path stored check) result
        → Replaces old new path revision stored check result
    by (Ok to) p = (row, l, p)
    by (Err refused.Failed) p = (row, l, p)
    by (Err (refused.Full needed)) p = (row, l, p)
    by (Err (refused.Changed to)) p = absurd p
    by (Err refused.NoMemory) p = p

-- a delete of a live row is what appending it gave
pub deletes_by : (old new : Kept) (path : List ℕ) (why : PutNo) → IsSome (live old.rows path)
    → Puts old new (delete_of path) (Err why) → Deletes old new path (Err why)
deletes_by old new path refused.Failed s p = (s, p)
deletes_by old new path (refused.Full needed) s p = (s, p)
deletes_by old new path (refused.Changed to) s p = p
deletes_by old new path refused.NoMemory s p = p
