use Rattle.std.proofs.Common.{◌≡◌, ◌++◌, take}
use Rattle.std.specs.Prelude.{not}
use Rattle.std.specs.List.{filter}
use Rattle.kr_judge.specs.Providers.{has}
use Rattle.kr_plan.proofs.merging.push_missing.Given as goal

abbrev pub invariant-loop-who : goal.invariant-loop-who
invariant-loop-who l = l.providers.items
    ≡ l.initial.providers.items ++ filter (λ who. not (has l.one who)) (take l.who-index l.other)
