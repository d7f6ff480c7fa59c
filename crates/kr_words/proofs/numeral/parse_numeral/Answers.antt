-- What the tactic leaves open of `parse_numeral`.
use Rattle.kr_words.proofs.Decimals.{number_parsed}
use Rattle.kr_words.proofs.numeral.parse_numeral.Goals as goal

pub returns-then-is_numeral : goal.returns-then-is_numeral
returns-then-is_numeral c = number_parsed c.args.text.now c.parse.result c.ok.result
    (c.is_numeral.ensures.0 c.if-is_numeral.true) c.parse.ensures.value.0 c.ok.ensures.value
