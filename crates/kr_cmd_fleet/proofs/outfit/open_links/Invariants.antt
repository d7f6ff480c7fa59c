-- `open_links`: so many links were borrowed.
use Rattle.std.specs.Prelude.{All}
use Rattle.kr_cmd_fleet.proofs.Outfitting.{IsLinking}
use Rattle.kr_cmd_fleet.proofs.outfit.open_links.Given as goal

abbrev pub invariant-loop-program : goal.invariant-loop-program
invariant-loop-program g l = IsLinking g.W.Link.Kms.link g.W.Rand.Dice.left g.W.Rand.Dice.count
    l.seat l.programs (g.W.World.told l.initial.world) l.program-index (g.W.World.told l.world)
    l.links × All (g.W.World.lent l.seat) l.links
