-- `part_budgets`: one more budget, and the budget of a part for which there is no room left.
use Rattle.std.proofs.Common.{[], ◌∷◌, ◌++◌, ap, sym, ◌∙◌, arith}
use Rattle.kr_workers.specs.Budgets.{budget_of, reloads_of}
use Rattle.kr_workers.proofs.Summing.{more_budgets, more_reloads, more_sum, sum_above}
use Rattle.kr_workers.proofs.budget.part_budgets.Goals as goal

pub loop-part-preserved : goal.loop-part-preserved
loop-part-preserved c =
    let lines = c.in-Some.ensures.0 ∙ ap (budget_of c.args.paths) c.as_slice.ensures in
    let brought = c.in-Some.ensures.2 ∙ ap reloads_of c.as_slice.ensures in
    let sums = more_sum c.args.paths c.args.parts.now c.part-item.result c.loop-part.part-index
    c.loop-part-test.true c.part-item.is in (
      c.in_ok-push.ensures.items ∙ (λ i. c.loop-part.invariant.0 i ++ lines i ∷ [])
          ∙ sym (more_budgets c.args.paths c.args.parts.now c.part-item.result
          c.loop-part.part-index c.loop-part-test.true c.part-item.is),
      c.in_ok-push-2.ensures.items ∙ (λ i. c.loop-part.invariant.1 i ++ brought i ∷ [])
          ∙ sym (more_reloads c.args.paths c.args.parts.now c.part-item.result
          c.loop-part.part-index c.loop-part-test.true c.part-item.is),
      omega (arith, c.loop-part.invariant.2, lines, c.in-Some.ensures.1, sums),
    )

pub returns-in_default-clause-many : goal.returns-in_default-clause-many
returns-in_default-clause-many c = λ many.
    let lines = ap (budget_of c.args.paths) c.as_slice.ensures in
    let above = sum_above c.args.paths c.args.parts.now c.part-item.result c.loop-part.part-index
    c.loop-part-test.true c.part-item.is in
    omega (arith, c.in_default.ensures, lines, c.loop-part.invariant.2, above)
