-- `hire`: a worker for each part, or all outfits again.
use Rattle.std.proofs.Common.{◌∙◌, ap, arith, length, refl, sym}
use Rattle.std.proofs.lemmas.List.{length-reverse}
use Rattle.kr_cmd_fleet.proofs.Crews.{crew_hired, hired_long_enough, hired_outfits, hired_room, hired_seats, ok_holds}
use Rattle.kr_cmd_fleet.proofs.crew.hire.Goals as goal

pub hire_each-requires : goal.hire_each-requires
hire_each-requires g c = record {
  many = ap length c.in_turn-outfits.ensures ∙ length-reverse c.args.outfits.0 ∙ c.requires.many;
  none = c.reserve.ensures.items ∙ c.new-workers.ensures;
  room = ok_holds c.reserve.result (sym c.is_err.ensures.value ∙ c.if-is_err.false)
      c.reserve.ensures.ok;
}

pub invariant_of-result : goal.invariant_of-result
invariant_of-result g c = record {
  none_left = ap length c.in-Ok.ensures.all;
  none_told = ap length (c.reserve-else-is_err.ensures.items ∙ c.new-replies.ensures);
  room = hired_room c.args.parts.now c.args.outfits.0 c.in_turn-outfits.result.0
      c.hire_each.new.workers.0 c.into_vec.result.items c.hire_each.new.outfits.0
      c.hire_each.new.outfits.1 c.hire_each.ensures.hired c.in_turn-outfits.ensures c.requires.many
      c.into_vec.ensures;
  room_for_replies =
      let enough = ok_holds c.reserve-else-is_err.result
      (sym c.is_err-else-is_err.ensures.value ∙ c.if-is_err-2.false)
      c.reserve-else-is_err.ensures.ok in
      let few = hired_long_enough c.args.parts.now c.args.outfits.0 c.in_turn-outfits.result.0
      c.hire_each.new.workers.0 c.into_vec.result.items c.hire_each.new.outfits.0
      c.hire_each.new.outfits.1 c.hire_each.ensures.hired c.in_turn-outfits.ensures c.requires.many
      c.into_vec.ensures in omega (arith, enough, few);
}

pub returns-in-Ok-clause-hired : goal.returns-in-Ok-clause-hired
returns-in-Ok-clause-hired g c = crew_hired c.args.parts.now c.args.outfits.0 c.in_turn-outfits.result.0
    c.hire_each.new.workers.0 c.into_vec.result.items c.hire_each.new.outfits.0
    c.hire_each.new.outfits.1 c.hire_each.ensures.hired c.in_turn-outfits.ensures c.requires.many
    c.into_vec.ensures c.in-Ok.ensures.all

pub let_go-outfits-requires : goal.let_go-outfits-requires
let_go-outfits-requires g c = record {
  seats = hired_seats c.args.parts.now c.args.outfits.0 c.in_turn-outfits.result.0
      c.hire_each.new.workers.0 c.hire_each.new.workers.0 c.hire_each.new.outfits.0
      c.hire_each.new.outfits.1 c.hire_each.ensures.hired c.in_turn-outfits.ensures c.requires.many
      refl;
  none_told = ap length (c.reserve-else-is_err.ensures.items ∙ c.new-replies.ensures);
  room = hired_room c.args.parts.now c.args.outfits.0 c.in_turn-outfits.result.0
      c.hire_each.new.workers.0 c.hire_each.new.workers.0 c.hire_each.new.outfits.0
      c.hire_each.new.outfits.1 c.hire_each.ensures.hired c.in_turn-outfits.ensures c.requires.many
      refl;
  room_for_replies =
      let enough = ok_holds c.reserve-else-is_err.result
      (sym c.is_err-else-is_err.ensures.value ∙ c.if-is_err-2.false)
      c.reserve-else-is_err.ensures.ok in
      let few = hired_long_enough c.args.parts.now c.args.outfits.0 c.in_turn-outfits.result.0
      c.hire_each.new.workers.0 c.hire_each.new.workers.0 c.hire_each.new.outfits.0
      c.hire_each.new.outfits.1 c.hire_each.ensures.hired c.in_turn-outfits.ensures c.requires.many
      refl in omega (arith, enough, few);
}

pub returns-in-Err-clause-returned : goal.returns-in-Err-clause-returned
returns-in-Err-clause-returned g c = c.let_go-outfits.ensures.outfits
    ∙ hired_outfits c.args.parts.now c.args.outfits.0 c.in_turn-outfits.result.0
    c.hire_each.new.workers.0 c.hire_each.new.workers.0 c.hire_each.new.outfits.0
    c.hire_each.new.outfits.1 c.hire_each.ensures.hired c.in_turn-outfits.ensures c.requires.many
    refl
