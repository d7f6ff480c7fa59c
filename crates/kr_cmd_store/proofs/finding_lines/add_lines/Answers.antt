-- `add_lines`: each turn adds the line of the next row.
use Rattle.std.proofs.Common.{arith, ◌∙◌}
use Rattle.kr_cmd_steps.specs.declared.finding.Finding.TheVariants.{Fresh}
use Rattle.kr_cmd_store.proofs.LinesOfFindings.{lines_more}
use Rattle.kr_cmd_store.proofs.finding_lines.add_lines.Goals as goal

pub loop-at-preserved : goal.loop-at-preserved
loop-at-preserved c = lines_more c.args.rows.now c.args.findings.now c.loop-at.at
    c.index-rows-at.result c.get.result.now Fresh c.args.text.now.items c.loop-at.text.items
    c.add_line.new.text.items (omega (arith, c.loop-at-test.true))
    (omega (arith, c.loop-at-test.true, c.requires)) (c.get.ensures ∙ c.index-rows-at.is)
    c.in_ok-add_line.ensures c.loop-at.invariant
