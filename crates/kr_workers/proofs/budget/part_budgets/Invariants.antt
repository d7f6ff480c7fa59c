-- The budgets of the parts so far, and what room is left.
use Rattle.std.proofs.Common.{◌≡◌, ◌+◌, sum, take}
use Rattle.kr_base.specs.Limits.{journal_limit}
use Rattle.kr_workers.specs.Budgets.{all_reloads, script_budgets}
use Rattle.kr_workers.proofs.budget.part_budgets.Given as goal

abbrev pub invariant-loop-part : goal.invariant-loop-part
invariant-loop-part l =
    (l.budgets.entries.items ≡ take l.part-index (script_budgets l.paths l.parts))
    × (l.budgets.reloads.items ≡ take l.part-index (all_reloads l.parts))
    × (l.room + sum (take l.part-index (script_budgets l.paths l.parts)) ≡ journal_limit)
