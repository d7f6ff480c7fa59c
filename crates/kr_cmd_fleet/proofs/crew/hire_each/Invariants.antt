-- `hire_each`: the parts so far have their workers.
use Rattle.std.proofs.Common.{◌≡◌, ◌≤◌, ◌+◌, length, reverse}
use Rattle.kr_cmd_fleet.specs.inner.Crews.{HiresFirst}
use Rattle.kr_cmd_fleet.proofs.crew.hire_each.Given as goal

abbrev pub invariant-loop-part : goal.invariant-loop-part
invariant-loop-part g l = HiresFirst l.parts (reverse l.initial.outfits.0) l.workers.0
    l.outfits.0 l.outfits.1
    × (length l.workers.0 ≡ l.part-index)
    × (length l.parts ≤ l.workers.1 + l.part-index)
