use Rattle.std.proofs.lemmas.Bool.Decides.{same_from_decides}
use Rattle.kr_base.proofs.RuleTests.{name}
use Rattle.kr_base.proofs.rules.name_ok.Goals as goal

pub returns-clause-test : goal.returns-clause-test
returns-clause-test c = same_from_decides _ _ c.is_name.ensures (name c.args.name.now)
