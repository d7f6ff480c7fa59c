-- `add_workers`: the workers so far, and the pieces that they took.
use Rattle.std.proofs.Common.{◌≡◌, ◌+◌, ◌*◌, ◌++◌, map}
use Rattle.std.specs.List.{range_with_len}
use Rattle.kr_script.specs.Fleets.{worker_of}
use Rattle.kr_workload.specs.Loads.{load_worker}
use Rattle.kr_workload.proofs.script.add_workers.Given as goal

abbrev pub invariant-loop-worker : goal.invariant-loop-worker
invariant-loop-worker l =
    (map worker_of l.workers.0 ≡ map worker_of l.initial.workers.0
    ++ map (load_worker l.initial.pieces.0 l.size) (range_with_len 0 l.worker))
    × (l.pieces ≡ (l.initial.pieces.0, 2 + l.worker * l.size))
