-- `script_budgets`: over the paths that are live and those that are put.
use Rattle.std.proofs.Common.{◌+◌}
use Rattle.kr_workers.specs.Budgets.{put_lines}
use Rattle.kr_workers.proofs.PutLines.{paths_up_to, real_budgets, really_many}
use Rattle.kr_workers.proofs.Summing.{reloads_fit}
use Rattle.kr_workers.proofs.budget.script_budgets.Goals as goal

pub returns-clause-entries : goal.returns-clause-entries
returns-clause-entries c =
    real_budgets c.saturating_add.result (c.args.live + put_lines c.args.parts.now)
    (paths_up_to c.args.live c.saturating_add.result (put_lines c.args.parts.now)
    c.put_lines.result c.put_lines.ensures c.saturating_add.ensures) c.args.parts.now
    c.part_budgets.result c.part_budgets.ensures.entries c.part_budgets.ensures.few

pub returns-clause-many : goal.returns-clause-many
returns-clause-many c =
    really_many c.saturating_add.result (c.args.live + put_lines c.args.parts.now)
    (paths_up_to c.args.live c.saturating_add.result (put_lines c.args.parts.now)
    c.put_lines.result c.put_lines.ensures c.saturating_add.ensures) c.args.parts.now
    c.part_budgets.result c.part_budgets.ensures.many

pub returns-clause-fit : goal.returns-clause-fit
returns-clause-fit c = reloads_fit c.saturating_add.result c.args.parts.now c.part_budgets.result
    c.part_budgets.ensures.entries c.part_budgets.ensures.reloads
