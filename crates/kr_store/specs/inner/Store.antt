-- What the fields of a store keep.
use Rattle.std.specs.Prelude.{◌≡◌, ℕ, ◌^◌, ◌<◌, ◌≤◌, false, List, [], ◌++◌, length, IfSome}
use Rattle.kr_store.specs.declared.format.Format.{Format}
use Rattle.kr_store.specs.declared.index.Index.{Index}
use Rattle.kr_store.specs.declared.kept_row.KeptRow.{KeptRow}
use Rattle.kr_store.specs.File.{IsFile}
use Rattle.kr_store.specs.Stores.{Kept}
use Rattle.kr_store.specs.inner.Index.{IsIndexOf}
use Rattle.kr_store.specs.inner.KeptRows.{log_rows_of, AreKeptRows}
use Rattle.kr_store.specs.inner.Log.{Tail}

-- its rows and their index, and the file, with which the tape begins
pub record IsStore (format : Format) (rows : List KeptRow) (index : Index) (limit : ℕ)
    (log : Tail) : Type 0 where
  pub kept_rows : AreKeptRows format 1 rows
  pub indexed : IsIndexOf (log_rows_of rows) index
  pub file : List ℕ
  pub is : IsFile format (log_rows_of rows) file
  pub end : log.end ≡ length file
  pub within : length file ≤ limit
  pub small : limit < 2 ^ 63
  pub told : IfSome log.told (λ held. (rest : List ℕ) × (held ≡ file ++ rest)
      × (log.torn ≡ false → rest ≡ []))

abbrev pub kept_of : Format → List KeptRow → ℕ → Tail → Kept
kept_of format rows limit log = record {
  format = format;
  rows = log_rows_of rows;
  length = log.end;
  limit = limit;
  told = log.told;
  count = log.count;
  torn = log.torn;
}
