-- What the tactic leaves open of `read_lines`.
use Rattle.std.proofs.Common.{Err, subst, sym, arith}
use Rattle.std.specs.Str.Lines.{lines}
use Rattle.kr_script.specs.inner.Drafts.{draft_of, start}
use Rattle.kr_script.specs.inner.Reading.{answer, Gives}
use Rattle.kr_script.proofs.Going.{reading_more, reading_no_text, reading_stops}
use Rattle.kr_script.proofs.reading.read_lines.Goals as goal

pub returns-in-Err : goal.returns-in-Err
returns-in-Err c =
    reading_no_text (answer 1 start (lines c.args.bytes.now)) c.loop-line.number
    (draft_of c.loop-line.draft) (lines c.loop-line.rest.now) c.in-Some.line.now
    (lines c.in-Some.more.now) c.loop-line.invariant.0 c.in-Some.ensures.lines
    c.in-Err.ensures.cases.0

pub returns-in-Err-take_line : goal.returns-in-Err-take_line
returns-in-Err-take_line c =
    let whole = answer 1 start (lines c.args.bytes.now) in
    subst (λ why. Gives whole (Err why)) (sym c.refusal_on_line.ensures)
    (reading_stops whole c.loop-line.number (draft_of c.loop-line.draft)
    (draft_of c.take_line.new.self) (lines c.loop-line.rest.now) c.in-Some.line.now
    c.in-Ok.line.now (lines c.in-Some.more.now) c.in-Err-take_line.why (Unit {0})
    c.loop-line.invariant.0
    c.in-Some.ensures.lines c.in-Ok.ensures.cases.0 c.in-Ok.ensures.cases.1
    c.in-Err-take_line.ensures)

pub loop-line-preserved : goal.loop-line-preserved
loop-line-preserved c = (
  reading_more (answer 1 start (lines c.args.bytes.now)) c.loop-line.number
      (draft_of c.loop-line.draft) (draft_of c.take_line.new.self) (lines c.loop-line.rest.now)
      c.in-Some.line.now c.in-Ok.line.now (lines c.in-Some.more.now) c.loop-line.invariant.0
      c.in-Some.ensures.lines c.in-Ok.ensures.cases.0 c.in-Ok.ensures.cases.1
      c.in-Ok-take_line.ensures,
  omega (arith, c.loop-line.invariant.1, c.in-Some.ensures.shorter),
)
