use Rattle.std.proofs.Common.{ap, ◌∙◌}
use Rattle.std.specs.Option.{option_map}
use Rattle.kr_yaml.specs.Shown.{view, member_views}
use Rattle.kr_yaml.specs.inner.Seen.{token_view}
use Rattle.kr_yaml.specs.Lines.{pair}
use Rattle.kr_yaml.specs.inner.Frames.{frame_view, mapping_frame}
use Rattle.kr_yaml.proofs.Putting.{added, goes}
use Rattle.kr_yaml.proofs.put.continue_node.Goals as goal

pub returns-in-Err : goal.returns-in-Err
returns-in-Err c =
    let m = c.in-Members.mapping in
    let p = c.in-Pair in
    goes (token_view c.args.token) (pair m.column p.key (option_map view p.beside))
    (frame_view c.args.node) (mapping_frame m) (view c.args.value) c.in-Err.why
    (ap token_view p.is ∙ ap (λ n. pair n p.key (option_map view p.beside))
    c.if-own-mapping.false) (ap frame_view c.in-Members.is)
    (added m.column (member_views m.done.0) m.key p.key
    (option_map view p.beside) (view c.args.value) c.in-Err.why c.in-Err.ensures)
