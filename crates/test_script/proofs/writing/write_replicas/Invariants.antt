-- What the loop of `write_replicas` keeps.
use Rattle.std.proofs.Common.{◌≡◌, ◌++◌, take}
use Rattle.std.specs.List.{flat_map}
use Rattle.std.specs.String.{string_bytes}
use Rattle.test_script.specs.FleetText.{replica_text}
use Rattle.test_script.proofs.writing.write_replicas.Given as goal

abbrev pub invariant-loop-replica : goal.invariant-loop-replica
invariant-loop-replica l = string_bytes l.out
    ≡ string_bytes l.initial.out ++ flat_map replica_text (take l.replica-index l.replicas)
