use Rattle.std.proofs.Common.{◌≡◌, map, take}
use Rattle.serde_json.specs.View.{items_of, items_view}
use Rattle.kr_config.specs.Texts.{pattern_data}
use Rattle.kr_config.proofs.values.pattern_values.Given as goal

abbrev pub invariant-loop-pattern : goal.invariant-loop-pattern
invariant-loop-pattern l = items_view l.values.items
    ≡ items_of (map pattern_data (take l.pattern-index l.patterns))
