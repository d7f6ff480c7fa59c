-- `put_lines`: one part more, and all of them.
use Rattle.std.proofs.Common.{◌+◌, ◌-◌, ◌^◌, ap, count_by, min, ◌∙◌}
use Rattle.kr_workers.specs.Budgets.{is_put}
use Rattle.kr_workers.proofs.PutLines.{puts_more, puts_whole}
use Rattle.kr_workers.proofs.budget.put_lines.Goals as goal

pub loop-part-preserved : goal.loop-part-preserved
loop-part-preserved c =
    puts_more c.args.parts.now c.part-item.result c.loop-part.part-index c.loop-part-test.true
    c.part-item.is c.loop-part.puts c.saturating_add-puts.result c.loop-part.invariant
    (c.saturating_add-puts.ensures
    ∙ ap (λ n. min (c.loop-part.puts + n) (2 ^ 64 - 1)) (c.count_puts.ensures
    ∙ ap (count_by is_put) c.as_slice.ensures))

pub returns : goal.returns
returns c = puts_whole c.args.parts.now c.loop-part.part-index c.loop-part.puts
    c.loop-part-test.false c.loop-part.invariant
