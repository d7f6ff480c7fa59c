use Rattle.std.proofs.Common.{◌++◌, ◌∷◌, [], length, Some, sym, ap, ◌∙◌, subst, arith}
use Rattle.std.proofs.lemmas.List.{length-append}
use Rattle.kr_yaml.specs.inner.Seen.{token_view}
use Rattle.kr_yaml.specs.inner.Open.{first_state}
use Rattle.kr_yaml.specs.inner.Frames.{state_view}
use Rattle.kr_yaml.specs.inner.Puts.{Begins}
use Rattle.kr_yaml.proofs.Putting.{full_refused, begins_value, begins_node, begins_single}
use Rattle.kr_yaml.proofs.Putting.{begins_deep}
use Rattle.kr_yaml.proofs.put.put_innermost.Goals as goal

pub returns-in_default : goal.returns-in_default
returns-in_default c = full_refused (token_view c.args.token) c.args.nodes.items c.args.value
    c.in_default.field-0 c.requires.inside c.in_default.is

pub returns-in_default-node : goal.returns-in_default-node
returns-in_default-node c = (
  begins_value (token_view c.args.token) c.args.nodes.items c.args.value c.in-Ok.begun.1
      c.requires.inside c.in-None.is (subst (λ o. Begins (first_state (token_view c.args.token)) o
      c.in-Ok.begun.1) c.in_default-node.is c.in-Ok.ensures),
  begins_single (token_view c.args.token) c.args.nodes.items c.args.value c.requires.inside,
  c.requires.few,
)

pub returns-then-len-ge-LEVELS : goal.returns-then-len-ge-LEVELS
returns-then-len-ge-LEVELS c = (
  state_view (c.args.nodes.items ++ c.in-Some.node ∷ []) c.in-Ok.begun.1,
  begins_node (token_view c.args.token) c.args.nodes.items c.args.value c.in-Ok.begun.1
      c.in-Some.node c.requires.inside c.in-None.is
      (subst (λ o. Begins (first_state (token_view c.args.token)) o c.in-Ok.begun.1) c.in-Some.is
      c.in-Ok.ensures),
  begins_deep c.args.nodes.items c.in-Some.node c.in-Ok.begun.1 (omega arith),
  begins_single (token_view c.args.token) c.args.nodes.items c.args.value c.requires.inside,
)

pub returns-in-Ok-push : goal.returns-in-Ok-push
returns-in-Ok-push c = (
  begins_node (token_view c.args.token) c.args.nodes.items c.args.value c.in-Ok.begun.1
      c.in-Some.node c.requires.inside c.in-None.is
      (subst (λ o. Begins (first_state (token_view c.args.token)) o c.in-Ok.begun.1) c.in-Some.is
      c.in-Ok.ensures)
      ∙ ap (λ l. Some (state_view l c.in-Ok.begun.1)) (sym c.in-Ok-push.ensures.items),
  begins_single (token_view c.args.token) c.args.nodes.items c.args.value c.requires.inside,
  (let e = ap length c.in-Ok-push.ensures.items
      ∙ length-append c.args.nodes.items (c.in-Some.node ∷ []) in omega arith),
)
