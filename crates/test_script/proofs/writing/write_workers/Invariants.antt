-- What the loop of `write_workers` keeps.
use Rattle.std.proofs.Common.{◌≡◌, ◌++◌, take}
use Rattle.std.specs.List.{flat_map}
use Rattle.std.specs.String.{string_bytes}
use Rattle.kr_script.specs.Fleets.{worker_of}
use Rattle.test_script.specs.FleetText.{worker_text}
use Rattle.test_script.proofs.writing.write_workers.Given as goal

abbrev pub invariant-loop-worker : goal.invariant-loop-worker
invariant-loop-worker l = string_bytes l.out ≡ string_bytes l.initial.out
    ++ flat_map (λ worker. worker_text (worker_of worker)) (take l.worker-index l.workers)
