-- `live_rows`: each turn keeps the next row.
use Rattle.std.proofs.Common.{◌<◌, None, Some, sym, ◌∙◌, ap, subst}
use Rattle.std.specs.Prelude.{IfSome}
use Rattle.std.specs.List.{last_or}
use Rattle.kr_store.specs.Rows.{IsRow}
use Rattle.kr_store.specs.Stores.{IsNext}
use Rattle.kr_cmd_steps.specs.inner.Tapes.{walk_path}
use Rattle.kr_opening.proofs.Walking.{goes_on, left_after}
use Rattle.kr_cmd_store.proofs.LiveRows.{AreKept, kept_all, kept_more, kept_none, last_behind}
use Rattle.kr_cmd_store.proofs.verifying.live_rows.Goals as goal

pub loop-row-init : goal.loop-row-init
loop-row-init g c = subst (AreKept c.args.store.now.rows) (sym c.new-rows.ensures)
    (kept_none c.args.store.now.rows)

pub returns-in-Ok-None-clause-listing : goal.returns-in-Ok-None-clause-listing
returns-in-Ok-None-clause-listing g c =
    let rows = c.args.store.now.rows in
    kept_all c.args.store.now.format rows c.loop-row.rows.0 c.known.ensures.1.0
    c.loop-row.invariant
    (subst (λ p. IsNext rows p None)
    (c.last_row_path.ensures ∙ ap (λ l. walk_path (last_or None l)) c.as_slice.ensures)
    (subst (λ o. IsNext rows c.last_row_path.result.now o) c.in-Ok-None.field-0-is
    c.in-Ok-None.ensures.next))

pub loop-row-preserved : goal.loop-row-preserved
loop-row-preserved g c =
    let rows = c.args.store.now.rows in
    let format = c.args.store.now.format in
    subst (AreKept rows) (sym c.in-Ok.ensures.ok)
    (kept_more format rows c.loop-row.rows.0 c.in-Ok-Some.row c.loop-row.invariant
    (subst (λ p. IsNext rows p (Some c.in-Ok-Some.row))
    (c.last_row_path.ensures ∙ ap (λ l. walk_path (last_or None l)) c.as_slice.ensures)
    (subst (λ o. IsNext rows c.last_row_path.result.now o) c.in-Ok-Some.field-0-is
    c.in-Ok-Some.ensures.next))
    (subst (λ o. IfSome o (IsRow format)) c.in-Ok-Some.field-0-is c.in-Ok-Some.ensures.rules))

pub loop-row-smaller : goal.loop-row-smaller
loop-row-smaller g c =
    let rows = c.args.store.now.rows in
    let kept = c.loop-row.rows.0 in
    let path = walk_path (last_or None kept) in
    subst (λ p. left_after p rows < left_after path rows)
    (sym (ap (λ l. walk_path (last_or None l)) c.in-Ok.ensures.ok
    ∙ ap walk_path (last_behind None kept c.in-Ok-Some.row)))
    (goes_on rows path c.in-Ok-Some.row
    (subst (λ p. IsNext rows p (Some c.in-Ok-Some.row))
    (c.last_row_path.ensures ∙ ap (λ l. walk_path (last_or None l)) c.as_slice.ensures)
    (subst (λ o. IsNext rows c.last_row_path.result.now o) c.in-Ok-Some.field-0-is
    c.in-Ok-Some.ensures.next)))
