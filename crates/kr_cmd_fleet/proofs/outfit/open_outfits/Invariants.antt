-- `open_outfits`: so many seats have their outfits, and there is room for the others.
use Rattle.std.proofs.Common.{◌+◌, ◌≤◌}
use Rattle.kr_cmd_fleet.specs.StartExchanges.{AreOfSeats}
use Rattle.kr_cmd_fleet.specs.inner.Outfits.{links_of}
use Rattle.kr_cmd_fleet.proofs.Outfitting.{IsOutfitting}
use Rattle.kr_cmd_fleet.proofs.outfit.open_outfits.Given as goal

abbrev pub invariant-loop-seat : goal.invariant-loop-seat
invariant-loop-seat g l = IsOutfitting g.W.Link.Kms.link g.W.Rand.Dice.left g.W.Rand.Dice.count
    l.programs l.seats (g.W.World.told l.initial.world) l.seat (g.W.World.told l.world)
    l.outfits.0 × (l.seats ≤ l.seat + l.outfits.1)
    × AreOfSeats g.W.World.lent 0 (links_of l.outfits.0)
