use Rattle.std.proofs.Common.{◌≡◌, ◌++◌, drop}
use Rattle.kr_config.specs.Kept.{rows_of}
use Rattle.kr_cmd_steps.specs.Check.{lines_from}
use Rattle.kr_cmd_values.proofs.listing.entry_lines.Given as goal

abbrev pub invariant-loop-entry : goal.invariant-loop-entry
invariant-loop-entry l =
    (l.text.items
    ++ lines_from l.number (rows_of (drop l.entry-index l.entries)) ≡ lines_from 0
    (rows_of l.entries)) × (l.number ≡ l.entry-index)
