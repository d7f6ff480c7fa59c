use Rattle.std.proofs.Common.{arith, sym, ap, ◌∙◌}
use Rattle.kr_yaml.specs.inner.Stops.{stops}
use Rattle.kr_yaml.proofs.Until.{until_more, tail_is}
use Rattle.kr_yaml.proofs.bytes.length_before_stop.Goals as goal

pub loop-index-preserved : goal.loop-index-preserved
loop-index-preserved c =
    let m = until_more (stops c.args.stop) c.args.bytes.now c.loop-index.index
    c.loop-index-test.true
    (ap (stops c.args.stop) (sym (tail_is c.loop-index.index c.args.bytes.now))
    ∙ sym c.stops.ensures ∙ c.if-stops.false) in
    omega (arith, c.loop-index.invariant)
