use Rattle.std.proofs.Common.{◌≡◌, ◌-◌, sym, arith, ◌∙◌}
use Rattle.kr_aes.proofs.Powers.{times_squares_next, times_squares_none, times_squares-inverse}
use Rattle.kr_aes.proofs.field.inverse.Goals as goal

pub loop-preserved : goal.loop-preserved
loop-preserved c =
    rw (c.product-outcome.ensures, c.product-power.ensures)
    (sym (times_squares_next c.loop.counter c.loop.power c.loop.outcome c.loop-test.true) ∙ c.loop.invariant)

pub returns : goal.returns
returns c =
    let e : 7 - c.loop.counter ≡ 0 = omega arith in
    sym (times_squares_none c.loop.power c.loop.outcome)
    ∙ rw e at c.loop.invariant
    ∙ times_squares-inverse c.args.b (omega arith)
