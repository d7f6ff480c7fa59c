-- The lines of the parts so far that put an object.
use Rattle.std.proofs.Common.{◌≡◌, ◌-◌, ◌^◌, map, min, sum, take}
use Rattle.kr_workers.proofs.PutLines.{puts_in}
use Rattle.kr_workers.proofs.budget.put_lines.Given as goal

abbrev pub invariant-loop-part : goal.invariant-loop-part
invariant-loop-part l =
    l.puts ≡ min (sum (take l.part-index (map puts_in l.parts))) (2 ^ 64 - 1)
