-- What the tactic leaves open of `halves`.
use Rattle.std.proofs.Common.{None, ◌∙◌, arith}
use Rattle.std.proofs.lemmas.List.{get_or_default}
use Rattle.std.proofs.lemmas.Str.Pattern.{split_parts}
use Rattle.kr_script.proofs.words.halves.Goals as goal

pub returns-in-None-clause-cut : goal.returns-in-None-clause-cut
returns-in-None-clause-cut c = λ has. split_parts 32 c.args.text.now None c.in-None.ensures.cases
    (omega arith) has.0 has.1 (get_or_default c.args.text.now has.0 0 32 has.1 ∙ has.2)
