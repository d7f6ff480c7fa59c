-- What the loop of `replica_number` keeps.
use Rattle.std.proofs.Common.{◌≡◌, drop}
use Rattle.kr_script.specs.inner.Drafts.{place_from}
use Rattle.kr_script.proofs.script_line.replica_number.Given as goal

abbrev pub invariant-loop-number : goal.invariant-loop-number
invariant-loop-number l =
    place_from 0 l.replicas l.name ≡ place_from l.number (drop l.number l.replicas) l.name
