-- Lending a row.
use Rattle.std.specs.Prelude.{◌≡◌}
use Rattle.kr_store.specs.declared.rows.RowRef.{RowRef}
use Rattle.kr_store.specs.declared.rows.RowRef.TheVariants as lent
use Rattle.kr_store.specs.declared.kept_row.KeptRow.{KeptRow}
use Rattle.kr_store.specs.declared.kept_row.KeptRow.TheVariants as kept

-- the row is lent as it is kept
abbrev pub IsLentAs : KeptRow → RowRef → Type 0
IsLentAs (kept.Put row) (lent.Put found) = found.now ≡ row
IsLentAs (kept.Delete path) (lent.Delete found) = found.now ≡ path
IsLentAs row found = ⊥
