-- The value at hand has such bytes too.
use Rattle.std.proofs.Common.{ℕ, ◌<◌, List, below_more, subst, ◌∙◌}
use Rattle.std.specs.Prelude.{All}
use Rattle.std.proofs.lemmas.List.{get_or_default}
use Rattle.kr_kms_wire.proofs.members.tell_values.Goals as goal

pub loop-pair-preserved : goal.loop-pair-preserved
loop-pair-preserved c = below_more _ _ c.loop-pair.invariant (λ d.
    subst (λ (p : List ℕ × List ℕ). All (λ byte. byte < 256) p.1)
    (c.pair-item.is ∙ get_or_default c.args.pairs.now c.loop-pair.pair-index c.pair-item.result d
    c.loop-pair-test.true)
    c.known.ensures)
