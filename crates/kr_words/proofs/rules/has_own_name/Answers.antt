-- What the tactic finds late of `has_own_name`.
use Rattle.kr_words.specs.Rules.{HaveTwoNames}
use Rattle.kr_words.proofs.Commands.{no_plugin}
use Rattle.kr_words.proofs.Loops.{all_more, all_stops, all_ends}
use Rattle.kr_words.proofs.rules.has_own_name.Goals as goal

pub returns-then-ne : goal.returns-then-ne
returns-then-ne c = no_plugin c.args.later.now c.args.before.now _ _ c.ne.result c.ne.ensures
    c.if-ne.true c.as_str.ensures c.text.ensures

pub returns-then-not-have_two_names : goal.returns-then-not-have_two_names
returns-then-not-have_two_names c =
    all_stops (λ earlier. HaveTwoNames earlier c.args.later.now) c.args.before.now
    c.loop-earlier.earlier-index c.earlier-item.result c.loop-earlier-test.true c.earlier-item.is
    (λ two. let a = c.have_two_names.ensures.1 two in let b = c.if-not-have_two_names.true in cc)

pub loop-earlier-preserved : goal.loop-earlier-preserved
loop-earlier-preserved c =
    all_more (λ earlier. HaveTwoNames earlier c.args.later.now) c.args.before.now
    c.loop-earlier.earlier-index c.earlier-item.result c.loop-earlier-test.true c.earlier-item.is
    (c.have_two_names.ensures.0 c.if-not-have_two_names.false) c.loop-earlier.invariant

pub returns : goal.returns
returns c = all_ends (λ earlier. HaveTwoNames earlier c.args.later.now) c.args.before.now
    c.loop-earlier.earlier-index c.loop-earlier-test.false c.loop-earlier.invariant
