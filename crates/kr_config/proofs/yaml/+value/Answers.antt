-- What the tactic leaves open of the reading of a tree's parts.
use Rattle.std.proofs.Common.{map, ap, ◌∙◌}
use Rattle.std.proofs.lemmas.List.{take_all}
use Rattle.serde_json.specs.View.{items_of}
use Rattle.kr_yaml.specs.Shown as shown
use Rattle.kr_config.specs.Yaml.{json_of}
use Rattle.kr_config.proofs.Conversions.{items_same}
use Rattle.kr_config.proofs.yaml.+value.Goals as goal

pub tree_values-returns : goal.tree_values-returns
tree_values-returns t c = ap items_of
    (c.loop-item.invariant ∙ ap (map (λ tree. json_of (shown.view tree)))
    (take_all _ c.args.items.now c.loop-item-test.false)) ∙ items_same c.args.items.now
