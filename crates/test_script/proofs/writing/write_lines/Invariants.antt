-- What the loop of `write_lines` keeps.
use Rattle.std.proofs.Common.{◌≡◌, ◌++◌, take}
use Rattle.std.specs.List.{flat_map}
use Rattle.std.specs.String.{string_bytes}
use Rattle.test_script.specs.FleetText.{line_text}
use Rattle.test_script.proofs.writing.write_lines.Given as goal

abbrev pub invariant-loop-line : goal.invariant-loop-line
invariant-loop-line l = string_bytes l.out
    ≡ string_bytes l.initial.out ++ flat_map line_text (take l.line-index l.lines)
