-- What the tactic leaves open of `next_line`.
use Rattle.std.proofs.Common.{◌≡◌, ◌==◌, ◌∙◌, false, get_or, sym}
use Rattle.std.proofs.lemmas.Bool.{eq-eqb, ne_eqb}
use Rattle.std.proofs.lemmas.List.Elements.{All-more}
use Rattle.kr_script.proofs.Cuts.{line_at, line_last}
use Rattle.kr_script.proofs.lines.next_line.Goals as goal

pub returns-then-byte-eq10-clause-lines : goal.returns-then-byte-eq10-clause-lines
returns-then-byte-eq10-clause-lines c =
    line_at c.args.bytes.now c.loop-at.at c.without_return.result.now c.loop-at-test.true
    (eq-eqb (get_or c.args.bytes.now c.loop-at.at 0) 10 c.if-byte-eq10.true) c.loop-at.invariant c.without_return.ensures

pub loop-at-preserved : goal.loop-at-preserved
loop-at-preserved c = All-more (λ b. (b == 10) ≡ false) c.args.bytes.now c.loop-at.at 0
    c.loop-at-test.true c.loop-at.invariant
    (ne_eqb (get_or c.args.bytes.now c.loop-at.at 0) 10 c.if-byte-eq10.false)

pub returns-clause-lines : goal.returns-clause-lines
returns-clause-lines c = line_last c.args.bytes.now c.loop-at.at
    (sym c.is_empty.ensures ∙ c.if-is_empty.false) c.loop-at-test.false c.loop-at.invariant
