-- `live_rows`: one row behind another.
use Rattle.std.proofs.Common.{None, Some, sym, subst}
use Rattle.std.specs.Prelude.{IfSome}
use Rattle.kr_store.specs.Rows.{IsRow}
use Rattle.kr_store.specs.Stores.{IsNext}
use Rattle.kr_cmd_fleet.proofs.FirstReads.{IsPassed, end_of, fewer_left, next_to, passed_all, passed_more, passed_none, readable}
use Rattle.kr_cmd_fleet.proofs.watch_start.live_rows.Given.{Over}
use Rattle.kr_cmd_fleet.proofs.watch_start.live_rows.Goals.{In-Ok-Some}
use Rattle.kr_cmd_fleet.proofs.watch_start.live_rows.Goals as goal

-- the row that was found is the next one
next : (g : Over) (c : In-Ok-Some g)
    → IsNext c.args.store.now.rows (end_of c.loop-row.rows.0) (Some c.in-Ok-Some.row)
next g c = next_to c.args.store.now.rows c.loop-row.rows.0 c.as_slice.result.now
    c.walk_path.result.now (Some c.in-Ok-Some.row) c.walk_path.ensures
    c.as_slice.ensures c.in-Ok-Some.field-0-is c.in-Ok-Some.ensures.next

pub loop-row-init : goal.loop-row-init
loop-row-init g c = subst (IsPassed c.args.store.now.rows) (sym c.new-rows.ensures)
    (passed_none c.args.store.now.rows)

pub returns-in-Ok-None-clause-lists : goal.returns-in-Ok-None-clause-lists
returns-in-Ok-None-clause-lists g c =
    let rows = c.args.store.now.rows in
    passed_all c.args.store.now.format rows c.loop-row.rows.0 c.known.ensures.1.0
    c.loop-row.invariant
    (next_to rows c.loop-row.rows.0 c.as_slice.result.now c.walk_path.result.now
    None c.walk_path.ensures c.as_slice.ensures c.in-Ok-None.field-0-is
    c.in-Ok-None.ensures.next)

pub returns-in-Ok-None-clause-rules : goal.returns-in-Ok-None-clause-rules
returns-in-Ok-None-clause-rules g c = c.loop-row.invariant.readable

pub loop-row-preserved : goal.loop-row-preserved
loop-row-preserved g c =
    passed_more c.args.store.now.rows c.loop-row.rows.0 c.push.new.self.0 c.in-Ok-Some.row
    (next g (goal.at.loop-row-preserved g c).In-Ok-Some) c.in-Ok.ensures.ok c.loop-row.invariant
    (readable c.args.store.now.format c.in-Ok-Some.row
    (subst (λ o. IfSome o (IsRow c.args.store.now.format)) c.in-Ok-Some.field-0-is
    c.in-Ok-Some.ensures.rules))

pub loop-row-smaller : goal.loop-row-smaller
loop-row-smaller g c =
    fewer_left c.args.store.now.rows c.loop-row.rows.0 c.push.new.self.0 c.in-Ok-Some.row
    (next g (goal.at.loop-row-smaller g c).In-Ok-Some) c.in-Ok.ensures.ok
