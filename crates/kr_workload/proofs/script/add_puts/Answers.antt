-- `add_puts`: one more.
use Rattle.std.proofs.Common.{◌+◌, ◌*◌, ◌∙◌}
use Rattle.std.proofs.Math.Nat.{add_assoc}
use Rattle.kr_workload.specs.Loads.{put_of}
use Rattle.kr_workload.proofs.Filling.{one_more}
use Rattle.kr_workload.proofs.script.add_puts.Goals as goal

pub loop-number-preserved : goal.loop-number-preserved
loop-number-preserved c =
    let size = c.args.size in
    let worker = c.args.worker in
    let number = c.loop-number.number in
    let so = c.loop-number.invariant.1 in (
      one_more (put_of c.args.pieces.now.0 size worker) number c.args.lines.now.0
          c.loop-number.lines.0 c.add.new.list.0 c.in_ok-line.line c.loop-number.invariant.0
          c.in_ok-add.ensures
          (c.in_ok-line.ensures.line ∙ (λ i. put_of (so i).0 size worker number)),
      c.in_ok-line.ensures.passed ∙ (λ i. ((so i).0, (so i).1 + 1))
          ∙ (λ i. (c.args.pieces.now.0, add_assoc (2 + worker * size) number 1 i)),
    )
