-- What the tactic leaves open of `name_before_equals`.
use Rattle.std.proofs.Common.{None, sym, arith}
use Rattle.std.proofs.lemmas.List.{take_all}
use Rattle.std.proofs.lemmas.Str.Pattern.{split_once_first}
use Rattle.kr_words.proofs.rules.name_before_equals.Goals as goal

pub returns-in-None : goal.returns-in-None
returns-in-None c =
    let absent = split_once_first 61 c.args.value.now None c.in-None.ensures.cases (omega arith) in
    sym (take_all _ c.args.value.now (omega (arith, absent)))
