-- `unseat_each`: the next seat is taken back.
use Rattle.std.proofs.Common.{◌<◌, length, arith}
use Rattle.kr_workers.proofs.Seating.{unseat_at}
use Rattle.kr_workers.proofs.team.unseat_each.Goals as goal

pub loop-at-preserved : goal.loop-at-preserved
loop-at-preserved g c =
    let below : c.loop-at.at < length c.args.workers.now.items =
    omega (arith, c.loop-at-test.true, c.len-at-end.ensures) in (
      unseat_at c.args.workers.now.items c.loop-at.at c.loop-at.seats.0 c.loop-at.workers.items
          c.loop-at.invariant.0 below c.index_mut.result.now c.release_seat.new.self
          c.release_seat.result c.push_in_room.new.self.0 c.index_mut.ensures.value
          c.release_seat.ensures.seat c.release_seat.ensures.kept c.push_in_room.ensures.items,
      omega (arith, c.loop-at.invariant.1, c.push_in_room.ensures.room),
    )
