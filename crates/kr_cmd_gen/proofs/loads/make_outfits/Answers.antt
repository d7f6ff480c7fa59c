-- `make_outfits`: each turn adds one more.
use Rattle.std.proofs.Common.{ap, arith, ◌∙◌}
use Rattle.kr_cmd_gen.specs.inner.LoadOutcomes.{sources_in}
use Rattle.kr_cmd_gen.proofs.Generating.{more_bare, more_sources, none_bare}
use Rattle.kr_cmd_gen.proofs.loads.make_outfits.Goals as goal

pub returns-in_err-reserve-clause-bare : goal.returns-in_err-reserve-clause-bare
returns-in_err-reserve-clause-bare g c =
    none_bare c.reserve.new.self.0 (c.reserve.ensures.items ∙ c.requires.none)

pub loop-seat-init : goal.loop-seat-init
loop-seat-init g c = (
  ap sources_in (c.in_ok-reserve.ensures.items ∙ c.requires.none),
  none_bare c.reserve.new.self.0 (c.in_ok-reserve.ensures.items ∙ c.requires.none),
  omega (arith, c.in_ok-reserve.ensures.ok),
)

pub loop-seat-preserved : goal.loop-seat-preserved
loop-seat-preserved g c = (
  more_sources c.loop-seat.outfits.0 c.push_in_room.new.self.0 _ c.push_in_room.ensures.items
      c.args.seed c.loop-seat.seat c.worker_dice.ensures c.loop-seat.invariant.0,
  more_bare c.loop-seat.outfits.0 c.push_in_room.new.self.0 _ c.push_in_room.ensures.items
      c.new.ensures c.loop-seat.invariant.1,
  omega (arith, c.loop-seat.invariant.2, c.push_in_room.ensures.room),
)
