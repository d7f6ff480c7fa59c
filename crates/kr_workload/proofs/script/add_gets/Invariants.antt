-- `add_gets`: the lines so far.
use Rattle.std.proofs.Common.{◌≡◌, ◌++◌, map}
use Rattle.std.specs.List.{range_with_len}
use Rattle.kr_workload.specs.Loads.{load_get_line}
use Rattle.kr_workload.proofs.script.add_gets.Given as goal

abbrev pub invariant-loop-number : goal.invariant-loop-number
invariant-loop-number l = l.lines.0 ≡ l.initial.lines.0
    ++ map (load_get_line l.worker) (range_with_len 0 l.number)
