-- `hire_each`: the next part's worker, and an outfit that is put back.
use Rattle.std.proofs.Common.{◌+◌, ◌∙◌, [], ◌∷◌, ap, arith, length, refl, reverse}
use Rattle.std.proofs.lemmas.List.{length-append, length-reverse}
use Rattle.kr_cmd_fleet.proofs.Crews.{hired_back, hired_long, hired_next, none_hired, none_long}
use Rattle.kr_cmd_fleet.proofs.crew.hire_each.Goals as goal

pub loop-part-init : goal.loop-part-init
loop-part-init g c = (
  none_hired c.args.parts.now (reverse c.args.outfits.now.0) c.args.outfits.now.0
      c.args.workers.now.0 c.args.outfits.now.1 c.requires.none refl,
  ap length c.requires.none,
  omega (arith, c.requires.room),
)

pub unreachable-requires : goal.unreachable-requires
unreachable-requires g c =
    let long = hired_long c.args.parts.now (reverse c.args.outfits.now.0) c.loop-part.workers.0
    c.loop-part.outfits.0 c.loop-part.outfits.1 c.loop-part.invariant.0 in
    omega (
      arith,
      long,
      length-reverse c.args.outfits.now.0,
      c.requires.many,
      c.loop-part.invariant.1,
      c.loop-part-test.true,
      ap length c.in_default.ensures.items.0,
    )

pub push_in_room-requires : goal.push_in_room-requires
push_in_room-requires g c = omega (arith, c.loop-part.invariant.2, c.loop-part-test.true)

pub push_in_room-requires-in-Err : goal.push_in_room-requires-in-Err
push_in_room-requires-in-Err g c = omega (arith, c.in-Some.ensures.room)

pub loop-part-preserved : goal.loop-part-preserved
loop-part-preserved g c = (
  hired_next c.args.parts.now (reverse c.args.outfits.now.0) c.loop-part.workers.0
      c.loop-part.outfits.0 c.loop-part.outfits.1 c.loop-part.invariant.0 c.pop.new.self.0
      c.in-Some.outfit c.in-Ok.worker c.part-item.result c.loop-part.part-index
      c.push_in_room.new.self.0 c.pop.new.self.1 c.in-Some.ensures.items
      c.in-Ok.ensures.hired.0 c.loop-part.invariant.1 c.loop-part-test.true c.part-item.is
      c.in-Ok.ensures.hired.1 c.push_in_room.ensures.items c.in-Some.ensures.room,
  ap length c.push_in_room.ensures.items
      ∙ length-append c.loop-part.workers.0 (c.in-Ok.worker ∷ [])
      ∙ ap (λ n. n + 1) c.loop-part.invariant.1,
  omega (arith, c.loop-part.invariant.2, c.push_in_room.ensures.room),
)

pub returns-in-Err-clause-hired : goal.returns-in-Err-clause-hired
returns-in-Err-clause-hired g c =
    hired_back c.args.parts.now (reverse c.args.outfits.now.0) c.loop-part.workers.0
    c.loop-part.outfits.0 c.loop-part.outfits.1 c.loop-part.invariant.0 c.pop.new.self.0
    c.push_in_room-in-Err.new.self.0 c.in-Some.outfit c.in-Err.outfit
    c.push_in_room-in-Err.new.self.1
    c.in-Some.ensures.items c.push_in_room-in-Err.ensures.items c.in-Err.ensures.returned
    (omega (arith, c.push_in_room-in-Err.ensures.room, c.in-Some.ensures.room))

pub returns-clause-hired : goal.returns-clause-hired
returns-clause-hired g c = c.loop-part.invariant.0

pub returns-clause-all : goal.returns-clause-all
returns-clause-all g c =
    let long = hired_long c.args.parts.now (reverse c.args.outfits.now.0) c.loop-part.workers.0
    c.loop-part.outfits.0 c.loop-part.outfits.1 c.loop-part.invariant.0 in
    none_long c.loop-part.outfits.0 (omega (
      arith,
      long,
      length-reverse c.args.outfits.now.0,
      c.requires.many,
      c.loop-part.invariant.1,
      c.loop-part-test.false,
    ))
