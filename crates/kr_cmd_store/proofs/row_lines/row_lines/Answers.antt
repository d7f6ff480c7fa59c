use Rattle.std.proofs.Common.{◌≡◌, ℕ, List, [], ◌++◌, None, Some, Ok, sym, subst}
use Rattle.kr_store.specs.declared.rows.Row.{Row}
use Rattle.kr_store.specs.Stores.{IsNext}
use Rattle.kr_cmd_steps.specs.RowLines.{ShowsRows, IsTag, row_line}
use Rattle.kr_cmd_steps.specs.inner.Tapes.{walk_path}
use Rattle.kr_opening.proofs.Walking.{goes_on}
use Rattle.kr_cmd_store.proofs.Walk.{IsShown, shown_none, shown_more, shown_all}
use Rattle.kr_cmd_store.proofs.row_lines.row_lines.Goals as goal

pub loop-row-init : goal.loop-row-init
loop-row-init g c = subst (λ text. IsShown c.args.store.now.rows [] text)
    (sym c.new-text.ensures.items) (shown_none c.args.store.now.rows)

pub returns-in-Ok-None : goal.returns-in-Ok-None
returns-in-Ok-None g c =
    let rows = c.args.store.now.rows in
    subst (λ text. ShowsRows rows (Ok text)) (sym c.from_vec.ensures)
    (shown_all c.args.store.now.format rows (walk_path c.loop-row.last) c.loop-row.text.items
    c.known.ensures.1.0 c.loop-row.invariant
    (subst (λ p. IsNext rows p None) c.walk_path.ensures
    (subst (λ o. IsNext rows c.walk_path.result.now o) c.in-Ok-None.field-0-is
    c.in-Ok-None.ensures.next)))

pub loop-row-preserved : goal.loop-row-preserved
loop-row-preserved g c =
    let rows = c.args.store.now.rows in
    shown_more rows (walk_path c.loop-row.last) c.loop-row.text.items c.add_row.new.text.items
    c.in-Ok-Some.row c.loop-row.invariant
    (subst (λ p. IsNext rows p (Some c.in-Ok-Some.row)) c.walk_path.ensures
    (subst (λ o. IsNext rows c.walk_path.result.now o) c.in-Ok-Some.field-0-is
    c.in-Ok-Some.ensures.next))
    (subst (λ (row : Row). (tag : List ℕ) × IsTag row.stored tag
    × (c.add_row.new.text.items ≡ c.loop-row.text.items ++ row_line row tag))
    c.get.ensures c.in-Ok.ensures)

pub loop-row-smaller : goal.loop-row-smaller
loop-row-smaller g c =
    let rows = c.args.store.now.rows in
    goes_on rows (walk_path c.loop-row.last) c.in-Ok-Some.row
    (subst (λ p. IsNext rows p (Some c.in-Ok-Some.row)) c.walk_path.ensures
    (subst (λ o. IsNext rows c.walk_path.result.now o) c.in-Ok-Some.field-0-is
    c.in-Ok-Some.ensures.next))
