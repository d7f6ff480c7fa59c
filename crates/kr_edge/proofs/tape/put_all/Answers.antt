-- The next bytes stand behind those that were put, and what stands before the place stays.
use Rattle.std.proofs.Common.{take, ◌∙◌, arith}
use Rattle.kr_edge.proofs.Pieces.{put_next, front_of_put, front_stays, whatever}
use Rattle.kr_edge.proofs.Stops.{more_often}
use Rattle.kr_edge.proofs.tape.put_all.Goals as goal

pub returns-in_default-clause-bytes : goal.returns-in_default-clause-bytes
returns-in_default-clause-bytes g c = front_of_put _ _ c.args.at _ c.loop-done.invariant.put

pub returns-in-Err-clause-bytes : goal.returns-in-Err-clause-bytes
returns-in-Err-clause-bytes g c =
    let old = g.F.PlacedFile.told c.args.file.now in
    let now = g.F.PlacedFile.told c.loop-done.file in
    front_stays old now (g.F.PlacedFile.told c.write_again.new.file) c.args.at c.in-Some.place
    c.requires (whatever old (omega arith))
    (front_of_put old now c.args.at (take c.loop-done.done c.args.bytes.now)
    c.loop-done.invariant.put)
    c.in-Err.ensures.front

pub loop-done-preserved : goal.loop-done-preserved
loop-done-preserved g c =
    let old = g.F.PlacedFile.told c.args.file.now in
    let now = g.F.PlacedFile.told c.loop-done.file in
    let next = g.F.PlacedFile.told c.write_again.new.file in
    record {
      within = omega (arith, c.in-Ok.ensures.bound, c.loop-done.invariant.within);
      put = put_next old now next c.args.at c.loop-done.done c.in-Ok.n c.in-Some.place
          c.args.bytes.now (omega arith) c.loop-done.invariant.within c.requires
          c.loop-done.invariant.put c.in-Ok.ensures.bytes;
      lengths = c.write_again.ensures.lengths ∙ c.loop-done.invariant.lengths;
      later = more_often 0 0 _ _ _ c.loop-done.invariant.later c.write_again.ensures.later;
    }
