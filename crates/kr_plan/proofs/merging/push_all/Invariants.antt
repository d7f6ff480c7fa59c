use Rattle.std.proofs.Common.{◌≡◌, ◌++◌, take}
use Rattle.kr_plan.proofs.merging.push_all.Given as goal

abbrev pub invariant-loop-who : goal.invariant-loop-who
invariant-loop-who l = l.providers.items ≡ l.initial.providers.items ++ take l.who-index l.one
