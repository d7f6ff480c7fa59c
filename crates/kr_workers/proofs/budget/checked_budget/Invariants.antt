-- What the lines so far may need, which is no more than there is room for.
use Rattle.std.proofs.Common.{◌≡◌, ◌≤◌, ◌+◌, drop}
use Rattle.kr_workers.specs.Budgets.{budget_of, reloads_of}
use Rattle.kr_workers.proofs.budget.checked_budget.Given as goal

abbrev pub invariant-loop-line : goal.invariant-loop-line
invariant-loop-line l =
    (l.entries + budget_of l.paths (drop l.line-index l.lines) ≡ budget_of l.paths l.lines)
    × (l.reloads + reloads_of (drop l.line-index l.lines) ≡ reloads_of l.lines)
    × (l.reloads ≤ l.entries) × (l.entries ≤ l.room)
