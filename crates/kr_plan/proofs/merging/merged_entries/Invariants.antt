use Rattle.std.proofs.Common.{◌≡◌, take}
use Rattle.kr_config.specs.Kept.{rows_of}
use Rattle.kr_plan.specs.Merges.{merged_rows}
use Rattle.kr_plan.proofs.merging.merged_entries.Given as goal

abbrev pub invariant-loop-class : goal.invariant-loop-class
invariant-loop-class l = rows_of l.entries.items
    ≡ merged_rows (take l.class-index l.classes) (rows_of l.one.entries.0) (rows_of l.other.entries.0)
