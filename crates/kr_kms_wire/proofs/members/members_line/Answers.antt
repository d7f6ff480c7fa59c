-- The line is the text of the members, and is read as them.
use Rattle.std.proofs.Common.{◌≤◌, [], ◌∷◌, ◌++◌, Some, sym, ◌∙◌, ap, subst}
use Rattle.serde_json.specs.Data.{depth, object}
use Rattle.serde_json.specs.Read.{max_depth}
use Rattle.serde_json.specs.View.{members_view}
use Rattle.serde_json.specs.Written.{compact_text, has_float}
use Rattle.kr_kms_wire.specs.Members.{parsed_line_value}
use Rattle.kr_kms_wire.proofs.Shapes.{value_with_end}
use Rattle.kr_kms_wire.proofs.members.members_line.Goals as goal

pub returns-clause-text : goal.returns-clause-text
returns-clause-text c =
    let is = c.object_value-value.ensures in
    c.from_vec.ensures ∙ c.in_ok-push.ensures.items
    ∙ ap (λ l. l ++ 0x0A ∷ [])
    (c.in_ok-line.ensures.text (ap has_float is ∙ c.requires.floats) ∙ ap compact_text is)

pub returns-clause-read : goal.returns-clause-read
returns-clause-read c =
    let is = c.object_value-value.ensures in
    let members = object (members_view c.args.members.entries) in
    ap parsed_line_value (c.from_vec.ensures ∙ c.in_ok-push.ensures.items)
    ∙ value_with_end c.in_ok-line.line.items members c.in_ok-line.ensures.utf8
    (c.in_ok-line.ensures.reads_back
    (subst (λ d. depth d ≤ max_depth) (sym is) c.requires.nests) ∙ ap (λ d. Some d) is)
