use Rattle.std.proofs.lemmas.Bool.Decides.{same_from_decides}
use Rattle.kr_base.proofs.RuleTests.{path}
use Rattle.kr_base.proofs.rules.path_ok.Goals as goal

pub returns-clause-test : goal.returns-clause-test
returns-clause-test c = same_from_decides _ _ c.is_path.ensures (path c.args.path.now)
