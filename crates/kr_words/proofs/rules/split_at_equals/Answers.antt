-- What the tactic leaves open of `split_at_equals`.
use Rattle.std.proofs.Common.{None, ◌∙◌, arith}
use Rattle.std.proofs.lemmas.List.{get_or_default}
use Rattle.std.proofs.lemmas.Str.Pattern.{split_parts}
use Rattle.kr_words.proofs.rules.split_at_equals.Goals as goal

pub returns-in-None : goal.returns-in-None
returns-in-None c = λ has. split_parts 61 c.args.value.now None c.in-None.ensures.cases
    (omega arith) has.0 has.1 (get_or_default c.args.value.now has.0 0 61 has.1 ∙ has.2)
