-- The key at hand is a text too.
use Rattle.std.proofs.Common.{ℕ, List, below_more, subst, ◌∙◌}
use Rattle.std.specs.Str.{IsUtf8}
use Rattle.std.proofs.lemmas.List.{get_or_default}
use Rattle.kr_kms.proofs.seeds.tell_texts.Goals as goal

pub loop-pair-preserved : goal.loop-pair-preserved
loop-pair-preserved c = below_more _ _ c.loop-pair.invariant (λ d.
    subst (λ (p : List ℕ × List ℕ). IsUtf8 p.0)
    (c.pair-item.is ∙ get_or_default c.args.pairs.now c.loop-pair.pair-index c.pair-item.result d
    c.loop-pair-test.true)
    (subst IsUtf8 c.as_str-text.ensures c.as_str-text.utf8))
