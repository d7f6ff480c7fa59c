use Rattle.std.proofs.Common.{◌≡◌, map, take}
use Rattle.serde_json.specs.View.{items_of, items_view}
use Rattle.kr_config.specs.Texts.{element_data}
use Rattle.kr_config.proofs.values.element_values.Given as goal

abbrev pub invariant-loop-who : goal.invariant-loop-who
invariant-loop-who l = items_view l.values.items
    ≡ items_of (map element_data (take l.who-index l.providers))
