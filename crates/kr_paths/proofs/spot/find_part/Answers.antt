use Rattle.std.proofs.Common.{◌+◌, ◌-◌, ◌/◌, arith, sym, ap, ◌∙◌}
use Rattle.kr_paths.specs.inner.Parts.{is_above}
use Rattle.kr_paths.proofs.Searches.{seeks_above, seeks_other, seeks_end}
use Rattle.kr_paths.proofs.spot.find_part.Goals as goal

pub loop-high-preserved-then-is_above : goal.loop-high-preserved-then-is_above
loop-high-preserved-then-is_above c = seeks_above c.args.path.now c.args.parts.now c.loop-high.low c.loop-high.high (c.loop-high.low + (c.loop-high.high - c.loop-high.low) / 2) c.index-parts-middle.result c.loop-high.invariant (omega arith) (omega arith)
    (ap (is_above c.args.path.now) (sym c.index-parts-middle.is) ∙ sym c.is_above.ensures ∙ c.if-is_above.true)

pub loop-high-preserved : goal.loop-high-preserved
loop-high-preserved c = seeks_other c.args.path.now c.args.parts.now c.loop-high.low c.loop-high.high (c.loop-high.low + (c.loop-high.high - c.loop-high.low) / 2) c.index-parts-middle.result c.loop-high.invariant (omega arith) (omega arith)
    (ap (is_above c.args.path.now) (sym c.index-parts-middle.is) ∙ sym c.is_above.ensures ∙ c.if-is_above.false)

pub returns : goal.returns
returns c = seeks_end c.args.path.now c.args.parts.now c.loop-high.low c.loop-high.high c.loop-high.invariant (omega arith)
