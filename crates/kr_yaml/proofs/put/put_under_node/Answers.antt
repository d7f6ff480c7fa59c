use Rattle.std.proofs.Common.{◌∷◌, [], length, Some, sym, ap, ◌∙◌, arith}
use Rattle.std.specs.Option.{option_map}
use Rattle.std.proofs.lemmas.List.{length-append}
use Rattle.kr_yaml.specs.Shown.{view}
use Rattle.kr_yaml.specs.inner.Seen.{token_view}
use Rattle.kr_yaml.specs.inner.Frames.{state_view}
use Rattle.kr_yaml.proofs.Putting.{next_node, next_refused, next_put}
use Rattle.kr_yaml.proofs.put.put_under_node.Goals as goal

pub returns-in-Err-continue_node : goal.returns-in-Err-continue_node
returns-in-Err-continue_node c =
    let n = next_node (token_view c.args.token) c.args.nodes.items c.pop.new.self.items
    c.in-Some.node c.args.at (option_map view c.args.value) c.requires.inside (omega arith)
    (sym c.in-Ok.ensures.rest ∙ c.in-Some.ensures.items) in
    next_refused (token_view c.args.token) c.args.nodes.items c.pop.new.self.items c.in-Some.node
    c.args.at (option_map view c.args.value) c.in-Ok.tree c.in-Err-continue_node.why n
    c.in-Ok.ensures.tree c.in-Err-continue_node.ensures

pub returns-in-Ok-push : goal.returns-in-Ok-push
returns-in-Ok-push c =
    let n = next_node (token_view c.args.token) c.args.nodes.items c.pop.new.self.items
    c.in-Some.node c.args.at (option_map view c.args.value) c.requires.inside (omega arith)
    (sym c.in-Ok.ensures.rest ∙ c.in-Some.ensures.items) in (
      next_put (token_view c.args.token) c.args.nodes.items c.pop.new.self.items c.in-Some.node
          c.in-Ok-continue_node.more.0 c.args.at (option_map view c.args.value) c.in-Ok.tree
          c.in-Ok-continue_node.more.1 n c.in-Ok.ensures.tree c.in-Ok-continue_node.ensures.0
          ∙ ap (λ l. Some (state_view l c.in-Ok-continue_node.more.1)) (sym c.in-Ok-push.ensures.items),
      n.twice ∙ c.in-Ok-continue_node.ensures.1,
      (let e = ap length c.in-Ok-push.ensures.items
          ∙ length-append c.pop.new.self.items (c.in-Ok-continue_node.more.0 ∷ []) in let f =
          n.front in let w = c.requires.within in let g = c.requires.few in omega arith),
    )
