-- `close_outfits`: these are still out.
use Rattle.std.proofs.Common.{List, length, ℕ}
use Rattle.kr_cmd_fleet.specs.StartExchanges.{AreOfSeats}
use Rattle.kr_cmd_fleet.specs.inner.Outfits.{links_of}
use Rattle.kr_cmd_fleet.proofs.Outfitting.{AreClosing}
use Rattle.kr_cmd_fleet.proofs.outfit.close_outfits.Given as goal

abbrev pub invariant-loop-outfit : goal.invariant-loop-outfit
invariant-loop-outfit g l = (names : List (List ℕ))
    × (AreOfSeats g.W.World.took 0 (links_of l.outfits.0)
    → AreOfSeats g.W.World.took 0 (links_of l.initial.outfits.0))
    × AreClosing g.W.Link.Kms.link g.W.Rand.Dice.left g.W.Rand.Dice.count names
    l.initial.outfits.0 (g.W.World.told l.initial.world) l.outfits.0
    (g.W.World.told l.world)

abbrev pub decreases-loop-outfit : goal.decreases-loop-outfit
decreases-loop-outfit g l = length l.outfits.0
