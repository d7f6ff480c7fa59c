-- `add_gets`: one more.
use Rattle.kr_workload.specs.Loads.{load_get_line}
use Rattle.kr_workload.proofs.Filling.{one_more}
use Rattle.kr_workload.proofs.script.add_gets.Goals as goal

pub loop-number-preserved : goal.loop-number-preserved
loop-number-preserved c = one_more (load_get_line c.args.worker) c.loop-number.number
    c.args.lines.now.0 c.loop-number.lines.0 c.add.new.list.0 c.in_ok-line.line
    c.loop-number.invariant c.in_ok-add.ensures c.in_ok-line.ensures
