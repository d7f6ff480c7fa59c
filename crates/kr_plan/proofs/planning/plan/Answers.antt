use Rattle.std.proofs.Common.{[], ◌∷◌, ◌∙◌}
use Rattle.kr_config.specs.Kept.{rows_of}
use Rattle.kr_judge.proofs.Tables.{table_computes}
use Rattle.kr_plan.proofs.planning.plan.Goals as goal

pub plan_classes-requires : goal.plan_classes-requires
plan_classes-requires c =
    let from = rows_of c.args.from.now.entries.0 in
    let to = rows_of c.args.to.now.entries.0 in
    c.classes.ensures.classes
    ∙ (table_computes (from ∷ to ∷ []) c.add-2.new.self).0
    (c.in_ok-add-2.ensures.ok (from ∷ []) (c.in_ok-add.ensures.ok [] c.new-table.ensures))
