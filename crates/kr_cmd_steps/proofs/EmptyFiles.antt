-- An empty file of a store has no rows.
use Rattle.std.proofs.Common.{◌≡◌, ℕ, List, [], length, ap, inl, inr, length-append, arith}
use Rattle.kr_store.specs.File.{IsFile, magic, rows_bytes}
use Rattle.kr_store.specs.declared.format.Format.{Format}
use Rattle.kr_store.specs.declared.format.Format.TheVariants.{Two}
use Rattle.kr_store.specs.declared.rows.LogRow.{LogRow}

-- an empty one has the second format, and no rows
pub empty_file : (format : Format) (rows : List LogRow) (bytes : List ℕ)
    → IsFile format rows bytes → length bytes ≡ 0 → (format ≡ Two) × (rows ≡ [])
empty_file format rows bytes (are, inl (two, none, nothing)) e = (two, none)
empty_file format rows bytes (are, inr same) e = absurd (omega (
  arith,
  e,
  ap length same,
  length-append (magic format) (rows_bytes 1 rows),
))
