-- `open_outfits`: each turn borrows one more.
use Rattle.std.proofs.Common.{◌∙◌, arith, subst, sym}
use Rattle.kr_cmd_fleet.specs.StartExchanges.{AreOfSeats}
use Rattle.kr_cmd_fleet.specs.inner.Outfits.{OutfitsHanded, links_of}
use Rattle.kr_cmd_fleet.proofs.Handed.{none_outfits}
use Rattle.kr_cmd_fleet.proofs.StartExchanges.{outfits_push}
use Rattle.kr_cmd_fleet.proofs.Outfitting.{all_outfits, no_outfit, one_outfit, outfit_refused, outfit_unhanded, still_all_out}
use Rattle.kr_cmd_fleet.proofs.outfit.open_outfits.Goals as goal

pub loop-seat-init : goal.loop-seat-init
loop-seat-init g c = (
  no_outfit g.W.Link.Kms.link g.W.Rand.Dice.left g.W.Rand.Dice.count
      c.args.programs.now c.args.seats (g.W.World.told c.args.world.now)
      c.reserve.new.self.0 (c.in-Ok.ensures.items ∙ c.requires.none),
  omega (arith, c.in-Ok.ensures.ok),
  subst (λ os. AreOfSeats g.W.World.lent 0 (links_of os))
      (sym (c.in-Ok.ensures.items ∙ c.requires.none)) tt,
)

pub returns-in-Err-open_outfit-clause-does : goal.returns-in-Err-open_outfit-clause-does
returns-in-Err-open_outfit-clause-does g c = outfit_refused g.W.Link.Kms.link
    g.W.Rand.Dice.left g.W.Rand.Dice.count
    c.args.programs.now c.args.seats (g.W.World.told c.args.world.now)
    c.loop-seat.seat (g.W.World.told c.loop-seat.world) c.loop-seat.outfits.0
    c.loop-seat.invariant.0
    c.loop-seat-test.true (g.W.World.told c.open_outfit.new.world) c.in-Err-open_outfit.stop
    c.in-Err-open_outfit.ensures.does

pub returns-in-Err-open_outfit-clause-out : goal.returns-in-Err-open_outfit-clause-out
returns-in-Err-open_outfit-clause-out g c = λ seat lt.
    still_all_out g.W.Link.Kms.link g.W.Rand.Dice.left g.W.Rand.Dice.count
    c.args.programs.now c.args.seats (g.W.World.told c.args.world.now)
    c.loop-seat.seat (g.W.World.told c.loop-seat.world) c.loop-seat.outfits.0
    c.loop-seat.invariant.0
    c.loop-seat-test.true (g.W.World.told c.open_outfit.new.world)
    c.in-Err-open_outfit.ensures.others seat
    (omega (arith, lt, c.loop-seat.invariant.0.many))

pub loop-seat-preserved : goal.loop-seat-preserved
loop-seat-preserved g c = (
  one_outfit g.W.Link.Kms.link g.W.Rand.Dice.left g.W.Rand.Dice.count
      c.args.programs.now c.args.seats (g.W.World.told c.args.world.now)
      c.loop-seat.seat (g.W.World.told c.loop-seat.world) c.loop-seat.outfits.0
      c.loop-seat.invariant.0
      c.loop-seat-test.true (g.W.World.told c.open_outfit.new.world)
      c.in-Ok-open_outfit.outfit c.push_in_room.new.self.0 c.push_in_room.ensures.items
      c.in-Ok-open_outfit.ensures.does c.in-Ok-open_outfit.ensures.named
      c.in-Ok-open_outfit.ensures.out c.in-Ok-open_outfit.ensures.others
      c.in-Ok-open_outfit.ensures.tapes c.in-Ok-open_outfit.ensures.handed,
  omega (arith, c.loop-seat.invariant.1, c.push_in_room.ensures.room),
  outfits_push g.W.World.lent c.loop-seat.outfits.0 c.push_in_room.new.self.0
      c.in-Ok-open_outfit.outfit c.loop-seat.seat c.push_in_room.ensures.items
      c.loop-seat.invariant.0.many c.loop-seat.invariant.2 c.in-Ok-open_outfit.ensures.lent,
)

pub returns-clause-does : goal.returns-clause-does
returns-clause-does g c = all_outfits g.W.Link.Kms.link g.W.Rand.Dice.left g.W.Rand.Dice.count
    c.args.programs.now c.args.seats (g.W.World.told c.args.world.now)
    c.loop-seat.seat (g.W.World.told c.loop-seat.world) c.loop-seat.outfits.0
    c.loop-seat.invariant.0
    c.loop-seat-test.false

pub returns-clause-out : goal.returns-clause-out
returns-clause-out g c = λ seat lt. c.loop-seat.invariant.0.out seat
    (omega (arith, lt, c.loop-seat.invariant.0.many))

pub returns-in-Err-clause-lent : goal.returns-in-Err-clause-lent
returns-in-Err-clause-lent g c = subst (λ os. AreOfSeats g.W.World.lent 0 (links_of os))
    (sym (c.in-Err.ensures.items ∙ c.requires.none)) tt

pub returns-in-Err-open_outfit-clause-lent : goal.returns-in-Err-open_outfit-clause-lent
returns-in-Err-open_outfit-clause-lent g c = c.loop-seat.invariant.2

pub returns-clause-lent : goal.returns-clause-lent
returns-clause-lent g c = c.loop-seat.invariant.2

pub returns-in-Err-clause-handed : goal.returns-in-Err-clause-handed
returns-in-Err-clause-handed g c =
    let world = g.W.World.told c.args.world.now in
    subst (λ os. OutfitsHanded g.W.Link.Kms.link g.W.World.lent g.W.World.took world world
    (links_of os)) (sym (c.in-Err.ensures.items ∙ c.requires.none))
    (none_outfits g.W.Link.Kms.link g.W.World.lent g.W.World.took world)

pub returns-in-Err-open_outfit-clause-handed : goal.returns-in-Err-open_outfit-clause-handed
returns-in-Err-open_outfit-clause-handed g c = outfit_unhanded g.W.Link.Kms.link
    g.W.Rand.Dice.left g.W.Rand.Dice.count
    c.args.programs.now c.args.seats (g.W.World.told c.args.world.now)
    c.loop-seat.seat (g.W.World.told c.loop-seat.world) c.loop-seat.outfits.0
    c.loop-seat.invariant.0
    c.loop-seat-test.true (g.W.World.told c.open_outfit.new.world)
    c.in-Err-open_outfit.ensures.handed

pub returns-clause-handed : goal.returns-clause-handed
returns-clause-handed g c = c.loop-seat.invariant.0.handed
