-- What the tactic leaves open of `place_by_halves`.
use Rattle.std.proofs.Common.{◌+◌, ◌-◌, ◌/◌, arith, sym, ◌∙◌}
use Rattle.kr_config.proofs.ClassSearches.{before_middle, behind_middle, own_order}
use Rattle.kr_config.proofs.class_index.place_by_halves.Goals as goal

pub loop-low-preserved-in-Less : goal.loop-low-preserved-in-Less
loop-low-preserved-in-Less c =
    before_middle (c.loop-low.low + (c.loop-low.high - c.loop-low.low) / 2) c.requires
    c.loop-low.invariant c.index-index-middle.is
    (own_order _ c.index-index-middle.is c.borrowed.ensures (sym c.in-Less.is ∙ c.compare.ensures))
    (omega arith) (omega arith)

pub loop-low-preserved : goal.loop-low-preserved
loop-low-preserved c =
    behind_middle (c.loop-low.low + (c.loop-low.high - c.loop-low.low) / 2) c.requires
    c.loop-low.invariant c.index-index-middle.is
    (own_order _ c.index-index-middle.is c.borrowed.ensures
    (sym c.in-Greater.is ∙ c.compare.ensures)) (omega arith) (omega arith)
