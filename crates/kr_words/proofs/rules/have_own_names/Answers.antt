-- What the tactic leaves open of `have_own_names`.
use Rattle.kr_words.specs.Rules.{HaveTwoNames}
use Rattle.kr_words.proofs.Loops.{pairs_more, pairs_stop, pairs_end}
use Rattle.kr_words.proofs.rules.have_own_names.Goals as goal

pub returns-then-not-has_own_name : goal.returns-then-not-has_own_name
returns-then-not-has_own_name c =
    pairs_stop HaveTwoNames c.args.options.now c.loop-i.i c.index-options-i.result
    c.loop-i-test.true c.index-options-i.is
    (λ each. let a = c.has_own_name.ensures.1 each in let b = c.if-not-has_own_name.true in cc)

pub loop-i-preserved : goal.loop-i-preserved
loop-i-preserved c =
    pairs_more HaveTwoNames c.args.options.now c.loop-i.i c.index-options-i.result
    c.loop-i-test.true c.index-options-i.is
    (c.has_own_name.ensures.0 c.if-not-has_own_name.false) c.loop-i.invariant

pub returns : goal.returns
returns c = pairs_end HaveTwoNames c.args.options.now c.loop-i.i c.loop-i-test.false
    c.loop-i.invariant
