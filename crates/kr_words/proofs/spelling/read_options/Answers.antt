-- What the tactic leaves open of `read_options`.
use Rattle.std.proofs.Common.{subst, sym}
use Rattle.kr_words.specs.Grammar.{texts}
use Rattle.kr_words.proofs.Spellings.{IsLeft, left_refused, left_less, left_none, some_left}
use Rattle.kr_words.proofs.Spellings.{no_texts}
use Rattle.kr_words.proofs.spelling.read_options.Goals as goal

pub returns-in_default : goal.returns-in_default
returns-in_default c =
    left_refused (texts c.args.words.now) c.loop-rest.options.0 (texts c.loop-rest.rest.now)
    (some_left c.loop-rest.rest.now c.is_empty.result c.is_empty.ensures c.loop-rest-test.true)
    c.in_default.ensures c.loop-rest.invariant

pub loop-rest-preserved : goal.loop-rest-preserved
loop-rest-preserved c =
    let words = texts c.args.words.now in
    subst (λ o. IsLeft words o (texts c.in-Some.tail.now)) (sym c.in-Ok.ensures)
    (left_less words c.loop-rest.options.0 (texts c.loop-rest.rest.now) (texts c.in-Some.tail.now)
    (c.in-Some.name.now, c.in-Some.value.now) c.in-Some.ensures.0 c.in-Some.ensures.1
    c.loop-rest.invariant)

pub returns : goal.returns
returns c =
    let words = texts c.args.words.now in
    left_none words c.loop-rest.options.0
    (subst (IsLeft words c.loop-rest.options.0)
    (no_texts c.loop-rest.rest.now c.is_empty.result c.is_empty.ensures c.loop-rest-test.false)
    c.loop-rest.invariant)
