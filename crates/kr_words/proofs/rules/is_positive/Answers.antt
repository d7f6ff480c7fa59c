-- What the tactic leaves open of `is_positive`.
use Rattle.kr_words.proofs.Decimals.{size_is}
use Rattle.kr_words.proofs.rules.is_positive.Goals as goal

pub returns-then-is_numeral : goal.returns-then-is_numeral
returns-then-is_numeral c = size_is c.args.value.now c.ne.result c.ne.ensures
    (c.is_numeral.ensures.0 c.if-is_numeral.true)
