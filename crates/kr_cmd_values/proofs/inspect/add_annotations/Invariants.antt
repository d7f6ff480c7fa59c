use Rattle.std.proofs.Common.{◌≡◌, ◌++◌, drop, map}
use Rattle.std.specs.List.{concat}
use Rattle.kr_cmd_steps.specs.Inspect.{annotation_line}
use Rattle.kr_cmd_values.proofs.inspect.add_annotations.Given as goal

abbrev pub invariant-loop-pair : goal.invariant-loop-pair
invariant-loop-pair l = l.text.items
    ++ concat (map annotation_line (drop l.pair-index l.pairs)) ≡ l.initial.text.items
    ++ concat (map annotation_line l.pairs)
