use Rattle.std.proofs.Common.{arith}
use Rattle.kr_judge.proofs.Groups.{same_grouped}
use Rattle.kr_judge.proofs.pair_table.PairTable.take_path.Goals as goal

pub invariant_of-self : goal.invariant_of-self
invariant_of-self c = (
  same_grouped c.self.inside.groups c.self.inside.pairs.items c.take_path.new.pairs.items c.self.invariant.0 c.take_path.ensures.taken.labels c.take_path.ensures.length,
  c.take_path.ensures.free,
  omega (arith, c.self.invariant.2, c.take_path.ensures.length, c.take_path.ensures.room),
)
