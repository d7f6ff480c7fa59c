-- How many lines put an object, and budgets where the paths are as many as can be counted.
use Rattle.std.proofs.Common.{◌≡◌, ℕ, ◌<◌, ◌≤◌, ◌+◌, ◌*◌, ◌-◌, ◌^◌, List, [], ◌∷◌, length, take, get_or, map, min, sum, count_by, Result, Ok, Err, refl, ap, sym, subst, ◌∙◌, arith}
use Rattle.std.specs.Prelude.{IfOk, IsErrOf}
use Rattle.std.proofs.lemmas.List.{get_or-map, length-map, take_all}
use Rattle.std.proofs.lemmas.List.Sums.{sum_by-cons, sum_by_more}
use Rattle.kr_script.specs.declared.script.Part.{Part}
use Rattle.kr_script.specs.declared.script.ScriptLine.{ScriptLine}
use Rattle.kr_script.specs.declared.script.ScriptLine.TheVariants as line
use Rattle.kr_workers.specs.declared.budget.BudgetNo.{BudgetNo}
use Rattle.kr_workers.specs.declared.budget.BudgetNo.TheVariants as refusal
use Rattle.kr_workers.specs.declared.budget.Budgets.{Budgets}
use Rattle.kr_base.specs.Limits.{journal_limit}
use Rattle.kr_workers.specs.Budgets.{budget_of, script_budgets, line_entries, is_put, put_lines}

abbrev most : ℕ
most = 2 ^ 64 - 1

-- ---- counting

abbrev pub puts_in : Part → ℕ
puts_in part = count_by is_put part.lines.0

up_to : (a b c d : ℕ) → a ≡ min c most → b ≡ min (a + d) most → b ≡ min (c + d) most
up_to a b c d e f = grind arith

module _ (parts : List Part) (part : Part) (k : ℕ) (below : k < length parts)
    (at : part ≡ get_or parts k part) (old new : ℕ)
    (so_far : old ≡ min (sum (take k (map puts_in parts))) (2 ^ 64 - 1))
    (more : new ≡ min (old + puts_in part) (2 ^ 64 - 1)) where
  pub puts_more : new ≡ min (sum (take (k + 1) (map puts_in parts))) (2 ^ 64 - 1)
  puts_more =
      let there : k < length (map puts_in parts) =
      (let e = length-map parts puts_in in omega (arith, below, e)) in
      let here : get_or (map puts_in parts) k 0 ≡ puts_in part =
      get_or-map puts_in parts k part 0 below ∙ ap puts_in (sym at) in
      up_to old new (sum (take k (map puts_in parts))) (puts_in part) so_far more
      ∙ ap (λ n. min n most) (sym (sum_by_more (λ x. x) (map puts_in parts) k 0 there
      ∙ ap (λ n. sum (take k (map puts_in parts)) + n) here))

pub puts_whole : (parts : List Part) (k n : ℕ) → length parts ≤ k
    → n ≡ min (sum (take k (map puts_in parts))) (2 ^ 64 - 1)
    → n ≡ min (put_lines parts) (2 ^ 64 - 1)
puts_whole parts k n past is =
    let e = length-map parts puts_in in
    let far : length (map puts_in parts) ≤ k = omega (arith, past, e) in
    is ∙ ap (λ xs. min (sum xs) most) (take_all k (map puts_in parts) far)

-- ---- budgets over so many paths

module _ (paths real : ℕ) (is : paths ≡ min real (2 ^ 64 - 1)) where
  counted : (a b : ℕ) → a ≡ min b most → 4 * a + 3 ≤ 4000000 → 4 * a + 3 ≡ 4 * b + 3
  counted a b e l = grind arith

  lower : (a b : ℕ) → a ≡ min b most → 4 * a + 3 ≤ 4 * b + 3
  lower a b e = grind arith

  same_entries : (asked : ScriptLine) → line_entries paths asked ≤ journal_limit
      → line_entries paths asked ≡ line_entries real asked
  same_entries line.Rewrite l = counted paths real is l
  same_entries other l = refl

  lower_entries : (asked : ScriptLine) → line_entries paths asked ≤ line_entries real asked
  lower_entries line.Rewrite = lower paths real is
  lower_entries other = omega arith

  same_budget : (lines : List ScriptLine) → budget_of paths lines ≤ journal_limit
      → budget_of paths lines ≡ budget_of real lines
  same_budget [] l = refl
  same_budget (asked ∷ lines) l =
      let first = same_entries asked (omega (arith, l)) in
      let rest = same_budget lines (omega (arith, l)) in omega (arith, first, rest)

  lower_budget : (lines : List ScriptLine) → budget_of paths lines ≤ budget_of real lines
  lower_budget [] = omega arith
  lower_budget (asked ∷ lines) =
      omega (arith, lower_entries asked, lower_budget lines)

  same_budgets : (parts : List Part) → sum (script_budgets paths parts) ≤ journal_limit
      → script_budgets paths parts ≡ script_budgets real parts
  same_budgets [] l = refl
  same_budgets (part ∷ parts) l =
      let whole = sum_by-cons (λ x. x) (budget_of paths part.lines.0) (script_budgets paths parts) in
      let first = same_budget part.lines.0 (omega (arith, l, whole)) in
      let rest = same_budgets parts (omega (arith, l, whole)) in λ i. first i ∷ rest i

  lower_budgets : (parts : List Part)
      → sum (script_budgets paths parts) ≤ sum (script_budgets real parts)
  lower_budgets [] = omega arith
  lower_budgets (part ∷ parts) = omega (
    arith,
    sum_by-cons (λ x. x) (budget_of paths part.lines.0) (script_budgets paths parts),
    sum_by-cons (λ x. x) (budget_of real part.lines.0) (script_budgets real parts),
    lower_budget part.lines.0,
    lower_budgets parts,
  )

  pub real_budgets : (parts : List Part) (result : Result Budgets BudgetNo)
      → IfOk result (λ budgets. budgets.entries.items ≡ script_budgets paths parts)
      → IfOk result (λ budgets. sum budgets.entries.items ≤ journal_limit)
      → IfOk result (λ budgets. budgets.entries.items ≡ script_budgets real parts)
  real_budgets parts (Ok budgets) e few =
      e ∙ same_budgets parts (subst (λ xs. sum xs ≤ journal_limit) e few)
  real_budgets parts (Err why) e few = tt

  pub really_many : (parts : List Part) (result : Result Budgets BudgetNo)
      → (IsErrOf result refusal.TooMany → journal_limit < sum (script_budgets paths parts))
      → IsErrOf result refusal.TooMany → journal_limit < sum (script_budgets real parts)
  really_many parts result many is =
      let less = many is in omega (arith, less, lower_budgets parts)

-- the paths are those that are live and those that are put, as far as can be counted
pub paths_up_to : (live puts count n : ℕ) → n ≡ min count (2 ^ 64 - 1)
    → puts ≡ min (live + n) (2 ^ 64 - 1) → puts ≡ min (live + count) (2 ^ 64 - 1)
paths_up_to live puts count n e f = grind arith
