-- A read without LF goes on, and one with its first LF at its end is the line's last.
use Rattle.std.proofs.Common.{length, ◌-◌, sym, ◌∙◌, arith, inr}
use Rattle.kr_edge.proofs.Lines.{filled_more, filled_line, end_within, line_goes_on}
use Rattle.kr_edge.proofs.exchange.read_line.Goals as goal

pub returns-then-at-count-clause-ok : goal.returns-then-at-count-clause-ok
returns-then-at-count-clause-ok g c = (
  end_within c.loop-filled.line c.read_piece.new.into c.loop-filled.filled c.in-Some.at _
      c.loop-filled.invariant.within (omega arith) c.in_ok-count.ensures.bound (omega arith),
  filled_line _ c.read_piece.new.into (length c.loop-filled.line - c.loop-filled.filled) _
      c.in-Some.at c.loop-filled.invariant c.in_ok-count.ensures.bytes
      c.in_ok-count.ensures.bound (omega arith)
      (sym c.in_ok-count.ensures.first ∙ c.in-Some.is),
  c.in_ok-count.ensures.cause.once ∙ c.loop-filled.invariant.calm,
)

pub loop-filled-preserved : goal.loop-filled-preserved
loop-filled-preserved g c = filled_more _ c.read_piece.new.into _ _ c.loop-filled.invariant
    c.in_ok-count.ensures.bytes c.in_ok-count.ensures.bound (omega arith)
    (sym c.in_ok-count.ensures.first ∙ c.in-None.is) c.in_ok-count.ensures.cause.once

pub returns-in-Some-clause-err : goal.returns-in-Some-clause-err
returns-in-Some-clause-err g c = inr (
  line_goes_on _ c.read_piece.new.into c.in_ok-count.count c.in-Some.at _ c.loop-filled.invariant
      c.in_ok-count.ensures.bytes c.in_ok-count.ensures.bound c.if-at-count.false
      (sym c.in_ok-count.ensures.first ∙ c.in-Some.is),
  c.in_ok-count.ensures.cause.once ∙ c.loop-filled.invariant.calm,
)
