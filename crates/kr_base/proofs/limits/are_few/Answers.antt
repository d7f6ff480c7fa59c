use Rattle.std.proofs.Common.{IsTrue, ◌↔◌, subst, sym}
use Rattle.kr_base.specs.Limits.{AreFew}
use Rattle.kr_base.proofs.RuleTests.{few}
use Rattle.kr_base.proofs.limits.are_few.Goals as goal

pub returns-clause-rule : goal.returns-clause-rule
returns-clause-rule c = subst (λ b. IsTrue b ↔ AreFew c.args.pairs.now)
    (sym c.within_limits.ensures) (few c.args.pairs.now)
