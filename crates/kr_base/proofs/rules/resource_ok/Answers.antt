use Rattle.std.proofs.lemmas.Bool.Decides.{same_from_decides}
use Rattle.kr_base.proofs.RuleTests.{resource}
use Rattle.kr_base.proofs.rules.resource_ok.Goals as goal

pub returns-clause-test : goal.returns-clause-test
returns-clause-test c = same_from_decides _ _ c.is_resource.ensures (resource c.args.resource.now)
