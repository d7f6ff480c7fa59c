-- `work`: the lines of its part were done, while it had no seat.
use Rattle.kr_workers.proofs.Working.{worked}
use Rattle.kr_workers.proofs.worker.work.Goals as goal

pub returns : goal.returns
returns g c = worked c.args.fleet.now c.args.files.now c.args.parts.now g.L.Kms.link g.L.Kms.step
    g.D.Dice.left g.D.Dice.count c.args.worker.now c.sit.new.self c.requires
    c.release_seat-seat.result c.work_at_seat-seat.result.0 c.release_seat-seat.ensures.seat
    c.release_seat-seat.new.self c.work_at_seat-seat.new.bench c.work_at_seat-seat.new.told
    c.work_at_seat-seat.result.1 c.index-parts-number.result c.number.result c.number.ensures
    c.index-parts-number.is c.release_seat-seat.ensures.kept c.sit.ensures c.work_at_seat-seat.ensures.its
    c.work_at_seat-seat.ensures.same c.work_at_seat-seat.ensures.runs
