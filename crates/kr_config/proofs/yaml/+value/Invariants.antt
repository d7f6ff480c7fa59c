-- What the loops over a tree's parts keep.
use Rattle.std.proofs.Common.{◌≡◌, take, drop, map}
use Rattle.serde_json.specs.Data.{no_members}
use Rattle.serde_json.specs.View.{view, members_view}
use Rattle.kr_yaml.specs.Data.{members_of}
use Rattle.kr_yaml.specs.Shown as shown
use Rattle.kr_config.specs.Yaml.{json_of, json_members}
use Rattle.kr_config.proofs.yaml.+value.Given as goal

abbrev pub invariant-tree_values-loop-item : goal.invariant-tree_values-loop-item
invariant-tree_values-loop-item l =
    map view l.values.items ≡ map (λ tree. json_of (shown.view tree)) (take l.item-index l.items)

abbrev pub invariant-members_map-loop-member : goal.invariant-members_map-loop-member
invariant-members_map-loop-member l =
    json_members (members_view l.map.entries)
    (members_of (shown.member_views (drop l.member-index l.members)))
    ≡ json_members no_members (members_of (shown.member_views l.members))
