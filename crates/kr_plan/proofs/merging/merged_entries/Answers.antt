-- `merged_entries`: one entry more in each turn.
use Rattle.std.proofs.Common.{ap, ◌∙◌}
use Rattle.kr_config.specs.Kept.{rows_of}
use Rattle.kr_plan.proofs.Steps.{merged_end, merged_more}
use Rattle.kr_plan.proofs.merging.merged_entries.Goals as goal

pub loop-class-preserved : goal.loop-class-preserved
loop-class-preserved c =
    let l = c.loop-class in
    ap rows_of c.in_ok-push.ensures.items
    ∙ merged_more c.args.classes.now (rows_of c.args.one.now.entries.0)
    (rows_of c.args.other.now.entries.0) l.class-index c.class-item.result l.entries.items
    c.in_ok-merged_entry.field-0 l.invariant c.loop-class-test.true c.class-item.is
    c.in_ok-merged_entry.ensures

pub returns : goal.returns
returns c =
    let l = c.loop-class in
    ap rows_of c.from_vec.ensures
    ∙ merged_end c.args.classes.now (rows_of c.args.one.now.entries.0)
    (rows_of c.args.other.now.entries.0) l.class-index l.entries.items l.invariant
    c.loop-class-test.false
