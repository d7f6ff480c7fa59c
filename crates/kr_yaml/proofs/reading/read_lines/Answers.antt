use Rattle.std.proofs.Common.{◌++◌, ◌∷◌, [], length}
use Rattle.std.specs.Str.Lines.{lines}
use Rattle.std.proofs.lemmas.List.{length-append}
use Rattle.std.proofs.lemmas.Iterator.Consumers.{YieldsList-turn, YieldsList-end}
use Rattle.std.proofs.lemmas.Iterator.Splits.{YieldsList-from_lines}
use Rattle.kr_yaml.specs.inner.Seen.{list_tokens}
use Rattle.kr_yaml.proofs.Following.{reading_more, reading_stops, reading_ends}
use Rattle.kr_yaml.proofs.reading.read_lines.Goals as goal

pub each-preserved : goal.each-preserved
each-preserved c =
    let t = YieldsList-turn (YieldsList-from_lines c.args.text.now cc) c.each.yielded
    c.each.line-iterator c.each.yielded_by c.next.result c.next.new.self c.in-Some.line
    c.in-Some.is c.next.ensures.steps in
    reading_more (lines c.args.text.now) (length c.each.yielded)
    (length (c.each.yielded ++ c.in-Some.line ∷ [])) c.each.number
    c.saturating_add-number.result c.each.first c.is_still_first-first.result c.each.progress
    c.in-Ok-steps.progress
    c.in-Some.line.now (list_tokens c.in-Ok.tokens) c.each.invariant t (length-append c.each.yielded
    (c.in-Some.line ∷ [])) c.in-Ok.ensures c.in-Ok-steps.ensures c.is_still_first-first.ensures
    c.saturating_add-number.ensures

pub returns-in-Err-Form : goal.returns-in-Err-Form
returns-in-Err-Form c =
    let t = YieldsList-turn (YieldsList-from_lines c.args.text.now cc) c.each.yielded
    c.each.line-iterator c.each.yielded_by c.next.result c.next.new.self c.in-Some.line
    c.in-Some.is c.next.ensures.steps in
    reading_stops (lines c.args.text.now) (length c.each.yielded) c.each.number c.each.first
    c.each.progress c.in-Some.line.now c.each.invariant t (rw c.in-Err-Form.field-0-is at
    c.in-Err-Form.ensures)

pub returns : goal.returns
returns c =
    let t = YieldsList-end (YieldsList-from_lines c.args.text.now cc) c.each.yielded
    c.each.line-iterator c.each.yielded_by c.next.result c.next.new.self c.in-None.is
    c.next.ensures.steps in
    reading_ends (lines c.args.text.now) (length c.each.yielded) c.each.number c.each.first
    c.each.progress c.each.invariant t.1
