use Rattle.std.proofs.Common.{◌≡◌, map, take}
use Rattle.serde_json.specs.View.{items_of, items_view}
use Rattle.kr_config.specs.Kept.{rows_of}
use Rattle.kr_config.specs.Texts.{entry_data}
use Rattle.kr_config.proofs.values.entry_values.Given as goal

abbrev pub invariant-loop-entry : goal.invariant-loop-entry
invariant-loop-entry l = items_view l.values.items
    ≡ items_of (map entry_data (rows_of (take l.entry-index l.entries)))
