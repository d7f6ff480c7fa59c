use Rattle.std.proofs.Common.{◌≡◌, ◌≤◌, length, take, drop, vec_len, Some}
use Rattle.std.specs.Option.{option_map}
use Rattle.kr_yaml.specs.Shown.{view}
use Rattle.kr_yaml.specs.inner.Open.{closed_value}
use Rattle.kr_yaml.specs.inner.Frames.{frame_views}
use Rattle.kr_yaml.proofs.put.close_nodes.Given as goal

abbrev pub invariant-nodes : goal.invariant-nodes
invariant-nodes l = record {
  within : l.at ≤ length l.nodes.items;
  front : take l.at l.nodes.items ≡ take l.at l.fn.nodes.items;
  tree : closed_value (frame_views (drop l.at l.fn.nodes.items)) (option_map view l.fn.value)
      ≡ closed_value (frame_views (drop l.at l.nodes.items)) (Some (view l.tree));
}

abbrev pub decreases-nodes : goal.decreases-nodes
decreases-nodes l = vec_len l.nodes
