-- What the tactic leaves open of `parse_reload`.
use Rattle.std.proofs.Common.{subst, sym}
use Rattle.kr_words.specs.Numerals.{IsDecimal}
use Rattle.kr_words.proofs.arguments.parse_reload.Goals as goal

pub returns-in-None-parse_numeral : goal.returns-in-None-parse_numeral
returns-in-None-parse_numeral c =
    λ replica h. c.in-None-parse_numeral.ensures replica
    (subst (λ text. IsDecimal text replica) (sym c.in-Some.ensures.1) h.1)
