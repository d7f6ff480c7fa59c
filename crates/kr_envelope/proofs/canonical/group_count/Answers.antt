-- How many groups of seven bits a number has.
use Rattle.std.proofs.Common.{sym}
use Rattle.kr_envelope.proofs.Numbers.{one_group, two_groups, three_groups}
use Rattle.kr_envelope.proofs.canonical.group_count.Goals as goal

pub returns-then-n-lt128-clause-exact : goal.returns-then-n-lt128-clause-exact
returns-then-n-lt128-clause-exact c = sym (one_group c.args.n c.if-n-lt128.true)

pub returns-then-n-lt16384-clause-exact : goal.returns-then-n-lt16384-clause-exact
returns-then-n-lt16384-clause-exact c = sym (two_groups c.args.n c.if-n-lt128.false c.if-n-lt16384.true)

pub returns-else-n-lt16384-clause-exact : goal.returns-else-n-lt16384-clause-exact
returns-else-n-lt16384-clause-exact c = sym (three_groups c.args.n c.if-n-lt16384.false c.requires)
