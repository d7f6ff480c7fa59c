-- `close_outfits`: each turn gives the last outfit back.
use Rattle.std.proofs.Common.{◌∙◌, ap, arith, length, refl, subst, sym}
use Rattle.std.specs.Prelude.{All}
use Rattle.std.proofs.lemmas.List.{length_push}
use Rattle.kr_provider.specs.Names.{names_of}
use Rattle.kr_cmd_fleet.specs.StartExchanges.{AreOfSeats}
use Rattle.kr_cmd_fleet.specs.inner.Outfits.{IsOut, OutfitReturn, links_of}
use Rattle.kr_cmd_fleet.proofs.Outfitting.{all_closed, last_out, none_closed, one_closed}
use Rattle.kr_cmd_fleet.proofs.StartExchanges.{outfits_push}
use Rattle.kr_cmd_fleet.proofs.outfit.close_outfits.Goals as goal

pub loop-outfit-init : goal.loop-outfit-init
loop-outfit-init g c = (
  c.requires.out.0,
  λ all. all,
  none_closed g.W.Link.Kms.link g.W.Rand.Dice.left g.W.Rand.Dice.count c.requires.out.0
      c.args.outfits.0 (g.W.World.told c.args.world.now) c.requires.out.1 c.requires.out.2,
)

pub overflow_cast-seat : goal.overflow_cast-seat
overflow_cast-seat g c = omega (
  arith,
  ap length c.as_slice.ensures,
  ap length c.in-Some.ensures.items ∙ length_push c.pop.new.self.0 c.in-Some.outfit,
  c.loop-outfit.invariant.2.few,
  c.requires.few,
)

pub close_outfit-requires-clause-out : goal.close_outfit-requires-clause-out
close_outfit-requires-clause-out g c = λ κs within.
    subst (λ seat. IsOut (names_of g.W.Link.Kms.link c.in-Some.outfit.links) seat
    (g.W.World.told c.loop-outfit.world)) (sym (ap length c.as_slice.ensures))
    (last_out g.W.Link.Kms.link g.W.Rand.Dice.left g.W.Rand.Dice.count
    c.loop-outfit.invariant.0 c.args.outfits.0 (g.W.World.told c.args.world.now)
    c.loop-outfit.outfits.0 c.pop.new.self.0 c.in-Some.outfit
    (g.W.World.told c.loop-outfit.world) c.loop-outfit.invariant.2 c.in-Some.ensures.items)

pub loop-outfit-preserved : goal.loop-outfit-preserved
loop-outfit-preserved g c = (
  c.loop-outfit.invariant.0,
  λ rest. c.loop-outfit.invariant.1
      (outfits_push g.W.World.took c.pop.new.self.0 c.loop-outfit.outfits.0 c.in-Some.outfit
      (length c.pop.new.self.0) c.in-Some.ensures.items refl rest
      (subst (λ seat. All (g.W.World.took seat) c.in-Some.outfit.links)
      (ap length c.as_slice.ensures) c.close_outfit.ensures.taken)),
  one_closed g.W.Link.Kms.link g.W.Rand.Dice.left g.W.Rand.Dice.count
      c.loop-outfit.invariant.0 c.args.outfits.0 (g.W.World.told c.args.world.now)
      c.loop-outfit.outfits.0 c.pop.new.self.0 c.in-Some.outfit
      (g.W.World.told c.loop-outfit.world) c.loop-outfit.invariant.2 c.in-Some.ensures.items
      (g.W.World.told c.close_outfit.new.world)
      (subst (λ seat. OutfitReturn g.W.Link.Kms.link g.W.Rand.Dice.left g.W.Rand.Dice.count seat
      (g.W.World.told c.loop-outfit.world) (g.W.World.told c.close_outfit.new.world)
      c.in-Some.outfit) (ap length c.as_slice.ensures) c.close_outfit.ensures.back),
)

pub loop-outfit-smaller : goal.loop-outfit-smaller
loop-outfit-smaller g c = omega (
  arith,
  ap length c.in-Some.ensures.items ∙ length_push c.pop.new.self.0 c.in-Some.outfit,
)

pub returns-clause-back : goal.returns-clause-back
returns-clause-back g c = all_closed g.W.Link.Kms.link g.W.Rand.Dice.left g.W.Rand.Dice.count
    c.loop-outfit.invariant.0 c.args.outfits.0 (g.W.World.told c.args.world.now)
    c.loop-outfit.outfits.0 (g.W.World.told c.loop-outfit.world) c.loop-outfit.invariant.2
    c.in_default.ensures.items.0

pub returns-clause-tapes : goal.returns-clause-tapes
returns-clause-tapes g c = c.loop-outfit.invariant.2.tapes

pub returns-clause-taken : goal.returns-clause-taken
returns-clause-taken g c = c.loop-outfit.invariant.1
    (subst (λ os. AreOfSeats g.W.World.took 0 (links_of os)) (sym c.in_default.ensures.items.0) tt)

pub returns-clause-handed : goal.returns-clause-handed
returns-clause-handed g c = c.loop-outfit.invariant.2.handed
