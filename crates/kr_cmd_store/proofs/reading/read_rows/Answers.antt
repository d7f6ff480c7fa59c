-- `read_rows`: each turn reads the next row.
use Rattle.std.proofs.Common.{arith, Ok, subst, sym}
use Rattle.kr_base.specs.Walks.{Talk}
use Rattle.kr_provider.specs.AskedLinks.{Among}
use Rattle.kr_cmd_store.specs.inner.Verifying.{findings_in}
use Rattle.kr_cmd_store.proofs.RowReading.{FindsAll, all_read, lacking_at, none_read, one_more_read, stopped_at}
use Rattle.kr_cmd_store.proofs.reading.read_rows.Goals as goal

pub loop-row-init : goal.loop-row-init
loop-row-init g c = none_read g.L.Kms.link g.D.Dice.left g.D.Dice.count g.L.Kms.step
    c.args.rows.now c.args.bench c.new-findings.result.0 c.new-findings.ensures

pub returns-in-Err-clause-does : goal.returns-in-Err-clause-does
returns-in-Err-clause-does g c =
    let end = c.cut_short.ensures.stop in
    stopped_at g.L.Kms.link g.D.Dice.left g.D.Dice.count g.L.Kms.step
    c.args.rows.now
    c.args.bench c.loop-row.row-index c.loop-row.findings.0 c.loop-row.bench
    c.loop-row.invariant c.get.result.now c.row-item.result c.loop-row-test.true c.row-item.is
    c.get.ensures c.read_row.new.bench c.read_row.result c.read_row.ensures.read
    c.cut_short.result.1 c.cut_short.result.2
    (findings_in c.cut_short.result.0) end.0 c.cut_short.ensures.links c.cut_short.ensures.dice
    end.1 c.in-Err.why c.in-Err.is end.2

pub returns-in-Err-push-clause-does : goal.returns-in-Err-push-clause-does
returns-in-Err-push-clause-does g c =
    let end = c.cut_short-in-Err-push.ensures.stop in
    lacking_at g.L.Kms.link g.D.Dice.left g.D.Dice.count g.L.Kms.step
    c.args.rows.now
    c.args.bench c.loop-row.row-index c.loop-row.findings.0 c.loop-row.bench
    c.loop-row.invariant c.get.result.now c.row-item.result c.loop-row-test.true c.row-item.is
    c.get.ensures c.read_row.new.bench c.read_row.result c.read_row.ensures.read
    c.cut_short-in-Err-push.result.1
    c.cut_short-in-Err-push.result.2 (findings_in c.cut_short-in-Err-push.result.0) end.0
    c.cut_short-in-Err-push.ensures.links c.cut_short-in-Err-push.ensures.dice end.1 end.2
    c.in-Ok.finding c.in-Ok.is

pub loop-row-preserved : goal.loop-row-preserved
loop-row-preserved g c =
    one_more_read g.L.Kms.link g.D.Dice.left g.D.Dice.count g.L.Kms.step
    c.args.rows.now
    c.args.bench c.loop-row.row-index c.loop-row.findings.0 c.loop-row.bench
    c.loop-row.invariant c.get.result.now c.row-item.result c.loop-row-test.true c.row-item.is
    c.get.ensures c.read_row.new.bench c.read_row.result c.read_row.ensures.read
    c.in-Ok.finding c.in-Ok.is c.push.new.self.0 c.in-Ok-push.ensures.ok
    c.read_row.ensures.kept c.read_row.ensures.names

pub returns-clause-does : goal.returns-clause-does
returns-clause-does g c =
    let link = g.L.Kms.link in
    let left = g.D.Dice.left in
    let count = g.D.Dice.count in
    let step = g.L.Kms.step in
    let rows = c.args.rows.now in
    let first = c.args.bench in
    let bench = c.loop-row.bench in
    let found = Ok c.loop-row.findings.0 in
    subst (λ l. Talk (Among step) first.links l
    (FindsAll link left count step rows first l c.close-links.result.1 found))
    (sym c.close-links.ensures.0)
    (subst (λ d. Talk (Among step) first.links bench.links
    (FindsAll link left count step rows first bench.links d found))
    (sym c.close-links.ensures.1)
    (all_read link left count step rows first c.loop-row.row-index
    c.loop-row.findings.0 bench c.loop-row.invariant (omega (arith, c.loop-row-test.false))))
