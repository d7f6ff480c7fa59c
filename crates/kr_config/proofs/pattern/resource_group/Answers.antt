-- What the tactic leaves open of `resource_group`.
use Rattle.std.proofs.Common.{None, sym, arith}
use Rattle.std.proofs.lemmas.List.{drop_all}
use Rattle.std.proofs.lemmas.Str.Pattern.{split_once_first}
use Rattle.kr_config.proofs.pattern.resource_group.Goals as goal

pub returns-in-None : goal.returns-in-None
returns-in-None c =
    let absent =
    split_once_first 46 c.args.resource.now None c.in-None.ensures.cases (omega arith) in
    sym (drop_all _ c.args.resource.now (omega (arith, absent)))
