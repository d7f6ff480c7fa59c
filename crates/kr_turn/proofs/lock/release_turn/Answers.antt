-- What the tactic leaves open of `release_turn`.
use Rattle.std.proofs.Common.{rules}
use Rattle.kr_turn.proofs.Keeps.{passes}
use Rattle.kr_turn.proofs.lock.release_turn.Goals as goal

pub store-requires : goal.store-requires
store-requires g c = (
  search rules,
  search rules,
  passes _ _ _ _ _ _ _ _ c.args.ticket c.requires.turned,
)
