use Rattle.std.proofs.Common.{arith, sym, ◌∙◌, ap, is_gt, is_eq}
use Rattle.kr_base.proofs.SortedPairs.{above_middle, below_middle, placed_end, placed_equal, placed_before}
use Rattle.kr_base.proofs.annotations.key_place.Goals as goal

pub loop-low-preserved-then-is_gt : goal.loop-low-preserved-then-is_gt
loop-low-preserved-then-is_gt c = above_middle c.args.key.now c.args.pairs.now c.loop-low.low c.loop-low.high _ c.index-pairs-middle.result c.loop-low.invariant (omega arith) (omega arith)
    (ap is_gt (sym c.cmp.ensures) ∙ sym c.is_gt.ensures ∙ c.if-is_gt.true)

pub loop-low-preserved : goal.loop-low-preserved
loop-low-preserved c = below_middle c.args.key.now c.args.pairs.now c.loop-low.low c.loop-low.high _ c.index-pairs-middle.result c.loop-low.invariant (omega arith) (omega arith)
    (ap is_gt (sym c.cmp.ensures) ∙ sym c.is_gt.ensures ∙ c.if-is_gt.false)

pub returns-then-low-pairs : goal.returns-then-low-pairs
returns-then-low-pairs c = placed_end c.args.key.now c.args.pairs.now c.loop-low.low c.loop-low.high c.loop-low.invariant c.loop-low-test.false c.if-low-pairs.true

pub returns-then-is_eq : goal.returns-then-is_eq
returns-then-is_eq c = placed_equal c.args.key.now c.args.pairs.now c.loop-low.low c.loop-low.high c.index-pairs-low.result c.loop-low.invariant c.loop-low-test.false c.if-low-pairs.false
    (ap is_eq (sym c.cmp-2.ensures) ∙ sym c.is_eq.ensures ∙ c.if-is_eq.true)

pub returns-else-is_eq : goal.returns-else-is_eq
returns-else-is_eq c = placed_before c.args.key.now c.args.pairs.now c.loop-low.low c.loop-low.high c.index-pairs-low.result c.loop-low.invariant c.loop-low-test.false
    (ap is_eq (sym c.cmp-2.ensures) ∙ sym c.is_eq.ensures ∙ c.if-is_eq.false)
