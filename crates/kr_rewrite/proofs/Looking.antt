-- The row that an After finds.
use Rattle.std.proofs.Common.{◌≡◌, Some}
use Rattle.kr_store.specs.Rows.{IsRow}
use Rattle.kr_store.specs.declared.rows.Row.{Row}
use Rattle.kr_history.specs.Acting.{Caller}
use Rattle.kr_rollout.specs.Callers.{found_in}

-- the row was found last, and keeps its rules
abbrev pub IsFound : Caller → Row → Type 0
IsFound new row = (found_in new.mine ≡ Some row) × IsRow new.opening.format row
