-- What the tactic leaves open of `text_past_equals`.
use Rattle.std.proofs.Common.{None, sym, arith}
use Rattle.std.proofs.lemmas.List.{drop_all}
use Rattle.std.proofs.lemmas.Str.Pattern.{split_once_first}
use Rattle.kr_words.proofs.arguments.text_past_equals.Goals as goal

pub returns-in-None : goal.returns-in-None
returns-in-None c =
    let absent = split_once_first 61 c.args.value.now None c.in-None.ensures.cases (omega arith) in
    sym (drop_all _ c.args.value.now (omega (arith, absent)))
