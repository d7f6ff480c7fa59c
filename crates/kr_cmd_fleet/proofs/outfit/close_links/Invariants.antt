-- `close_links`: these are still out.
use Rattle.std.proofs.Common.{length}
use Rattle.std.specs.Prelude.{All}
use Rattle.kr_cmd_fleet.proofs.Returning.{AreReturning}
use Rattle.kr_cmd_fleet.proofs.outfit.close_links.Given as goal

abbrev pub invariant-loop-link : goal.invariant-loop-link
invariant-loop-link g l = AreReturning g.W.Link.Kms.link l.seat l.initial.links
    (g.W.World.told l.initial.world) l.links (g.W.World.told l.world)
    × (All (g.W.World.took l.seat) l.links → All (g.W.World.took l.seat) l.initial.links)

abbrev pub decreases-loop-link : goal.decreases-loop-link
decreases-loop-link g l = length l.links
