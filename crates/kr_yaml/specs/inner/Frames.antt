-- The open nodes that those of the code stand for.
use Rattle.std.specs.Prelude.{List, map, Option}
use Rattle.std.specs.Option.{option_map}
use Rattle.kr_yaml.specs.Shown.{view, views, member_views}
use Rattle.kr_yaml.specs.inner.Open.{Frame, items, members, State}
use Rattle.kr_yaml.specs.declared.tree.Tree.{Tree}
use Rattle.kr_yaml.specs.declared.open.OpenNode.{OpenNode}
use Rattle.kr_yaml.specs.declared.open.OpenNode.TheVariants.{Items, Members}
use Rattle.kr_yaml.specs.declared.open_mapping.OpenMapping.{OpenMapping}

abbrev pub mapping_frame : OpenMapping → Frame
mapping_frame m = members m.column (member_views m.done.0) m.key

abbrev pub frame_view : OpenNode → Frame
frame_view (Items column done) = items column (views done.0)
frame_view (Members m) = mapping_frame m

abbrev pub frame_views : List OpenNode → List Frame
frame_views nodes = map frame_view nodes

abbrev pub state_view : List OpenNode → Option Tree → State
state_view nodes value = (frame_views nodes, option_map view value)
