-- Budgets: of lines, one behind another, and of all parts.
use Rattle.std.proofs.Common.{◌≡◌, ℕ, ◌<◌, ◌≤◌, ◌+◌, List, ◌∷◌, ◌++◌, [], length, take, get_or, sum, Result, Ok, Err, ap, sym, ◌∙◌, arith}
use Rattle.std.specs.Prelude.{IfOk}
use Rattle.std.proofs.lemmas.List.{get_or-map, length-map, take_more}
use Rattle.std.proofs.lemmas.List.Sums.{sum-map, sum_by_more, sum_by-le-sum_by, sum_by-take-le}
use Rattle.kr_script.specs.declared.script.Part.{Part}
use Rattle.kr_script.specs.declared.script.ScriptLine.{ScriptLine}
use Rattle.kr_script.specs.declared.script.ScriptLine.TheVariants as line
use Rattle.kr_workers.specs.declared.budget.BudgetNo.{BudgetNo}
use Rattle.kr_workers.specs.declared.budget.Budgets.{Budgets}
use Rattle.kr_workers.specs.Budgets.{all_reloads, brought_count, budget_of, script_budgets, line_entries, reloads_of}

module _ (paths : ℕ) (parts : List Part) (part : Part) (k : ℕ) (below : k < length parts)
    (at : part ≡ get_or parts k part) where
  budget_at : get_or (script_budgets paths parts) k 0 ≡ budget_of paths part.lines.0
  budget_at = get_or-map (λ (p : Part). budget_of paths p.lines.0) parts k part 0 below
      ∙ ap (λ (p : Part). budget_of paths p.lines.0) (sym at)

  reloads_at : get_or (all_reloads parts) k 0 ≡ reloads_of part.lines.0
  reloads_at = get_or-map (λ (p : Part). reloads_of p.lines.0) parts k part 0 below
      ∙ ap (λ (p : Part). reloads_of p.lines.0) (sym at)

  budget_there : k < length (script_budgets paths parts)
  budget_there = let e = length-map parts (λ (p : Part). budget_of paths p.lines.0) in
      omega (arith, below, e)

  reloads_there : k < length (all_reloads parts)
  reloads_there = let e = length-map parts (λ (p : Part). reloads_of p.lines.0) in
      omega (arith, below, e)

  pub more_budgets : take (k + 1) (script_budgets paths parts)
      ≡ take k (script_budgets paths parts) ++ budget_of paths part.lines.0 ∷ []
  more_budgets = take_more (script_budgets paths parts) k 0 budget_there
      ∙ ap (λ b. take k (script_budgets paths parts) ++ b ∷ []) budget_at

  pub more_reloads : take (k + 1) (all_reloads parts)
      ≡ take k (all_reloads parts) ++ reloads_of part.lines.0 ∷ []
  more_reloads = take_more (all_reloads parts) k 0 reloads_there
      ∙ ap (λ b. take k (all_reloads parts) ++ b ∷ []) reloads_at

  pub more_sum : sum (take (k + 1) (script_budgets paths parts))
      ≡ sum (take k (script_budgets paths parts)) + budget_of paths part.lines.0
  more_sum = sum_by_more (λ x. x) (script_budgets paths parts) k 0 budget_there
      ∙ ap (λ b. sum (take k (script_budgets paths parts)) + b) budget_at

  pub sum_above : sum (take k (script_budgets paths parts)) + budget_of paths part.lines.0
      ≤ sum (script_budgets paths parts)
  sum_above = let few : sum (take (k + 1) (script_budgets paths parts)) ≤ sum (script_budgets paths parts) =
      sum_by-take-le (λ x. x) (script_budgets paths parts) (k + 1) in
      omega (arith, few, more_sum)

-- ---- a line that brings a configuration adds a line to the journal

line_fits : (paths : ℕ) (asked : ScriptLine) → brought_count asked ≤ line_entries paths asked
line_fits paths (line.Put resource path plain) = omega arith
line_fits paths other = omega arith

lines_fit : (paths : ℕ) (lines : List ScriptLine) → reloads_of lines ≤ budget_of paths lines
lines_fit paths [] = omega arith
lines_fit paths (asked ∷ lines) = omega (arith, line_fits paths asked, lines_fit paths lines)

pub parts_fit : (paths : ℕ) (parts : List Part)
    → sum (all_reloads parts) ≤ sum (script_budgets paths parts)
parts_fit paths parts = omega (
  arith,
  sum-map (λ (p : Part). reloads_of p.lines.0) parts,
  sum-map (λ (p : Part). budget_of paths p.lines.0) parts,
  sum_by-le-sum_by (λ (p : Part). reloads_of p.lines.0) (λ (p : Part). budget_of paths p.lines.0)
      parts (λ p. lines_fit paths p.lines.0),
)

pub reloads_fit : (paths : ℕ) (parts : List Part) (result : Result Budgets BudgetNo)
    → IfOk result (λ budgets. budgets.entries.items ≡ script_budgets paths parts)
    → IfOk result (λ budgets. budgets.reloads.items ≡ all_reloads parts)
    → IfOk result (λ budgets. sum budgets.reloads.items ≤ sum budgets.entries.items)
reloads_fit paths parts (Ok budgets) entries reloads =
    omega (arith, ap sum entries, ap sum reloads, parts_fit paths parts)
reloads_fit paths parts (Err why) entries reloads = tt
