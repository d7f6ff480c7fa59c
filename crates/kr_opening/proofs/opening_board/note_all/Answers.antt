use Rattle.std.proofs.Common.{[], None, Some, refl, sym, ap, subst, ◌∙◌}
use Rattle.kr_config.specs.Kept.{rows_of}
use Rattle.kr_store.specs.declared.rows.Row.{Row}
use Rattle.kr_store.specs.Stores.{IsNext}
use Rattle.kr_opening.specs.inner.OpeningBoards.{NotesAll, walk_path}
use Rattle.kr_opening.proofs.Walking.{AreNoted, goes_on, noted_begin, noted_end, kept_begin, kept_end, walk_step, note_stops}
use Rattle.kr_opening.proofs.opening_board.note_all.Goals as goal

pub loop-row-init : goal.loop-row-init
loop-row-init g c =
    let first = rows_of c.args.first.now.entries.0 in
    let rows = c.args.store.now.rows in (
      subst (λ needs. AreNoted first rows [] needs) (sym c.requires.0)
          (noted_begin c.args.store.now.format first rows c.known.ensures.1.0),
      refl,
      kept_begin c.args.store.now.format first rows c.known.ensures.1.0,
    )

pub returns-in-Ok-None : goal.returns-in-Ok-None
returns-in-Ok-None g c =
    let rows = c.args.store.now.rows in
    let end = noted_end (rows_of c.args.first.now.entries.0) rows (walk_path c.loop-row.last)
    c.loop-row.board.needs c.loop-row.invariant.0
    (subst (λ p. IsNext rows p None) c.walk_path.ensures
    (subst (λ o. IsNext rows c.walk_path.result.now o) c.in-Ok-None.field-0-is
    c.in-Ok-None.ensures.next)) in
    subst (NotesAll (rows_of c.args.first.now.entries.0) rows c.args.board.now c.loop-row.board)
    (sym c.no_other.ensures)
    (kept_end (rows_of c.args.first.now.entries.0) rows (walk_path c.loop-row.last) c.loop-row.other
    c.args.board.now c.loop-row.board c.loop-row.invariant.2
    (subst (λ p. IsNext rows p None) c.walk_path.ensures
    (subst (λ o. IsNext rows c.walk_path.result.now o) c.in-Ok-None.field-0-is
    c.in-Ok-None.ensures.next)) end.0
    (c.loop-row.invariant.1 ∙ ap (λ n. record c.args.board.now { needs = n }) end.1))

pub loop-row-preserved : goal.loop-row-preserved
loop-row-preserved g c =
    let rows = c.args.store.now.rows in
    walk_step (rows_of c.args.first.now.entries.0) rows c.args.board.now c.loop-row.board
    c.note.new.board (walk_path c.loop-row.last) c.in-Ok-Some.row.path c.walk_path.result.now
    c.as_str.result.now c.in-Ok-Some.row c.get.result.now c.in-Ok.kept c.loop-row.other
    c.in-Ok-first_other.other c.loop-row.invariant
    (subst (λ o. IsNext rows c.walk_path.result.now o) c.in-Ok-Some.field-0-is
    c.in-Ok-Some.ensures.next) c.walk_path.ensures c.get.ensures c.in-Ok.ensures
    c.in-Ok-first_other.ensures
    (c.as_str.ensures ∙ ap (λ (r : Row). r.path) c.get-in-loop-row.ensures)
    refl

pub returns-in-Err-note : goal.returns-in-Err-note
returns-in-Err-note g c =
    let rows = c.args.store.now.rows in
    note_stops (rows_of c.args.first.now.entries.0) rows c.args.board.now c.loop-row.board
    c.note.new.board (walk_path c.loop-row.last) c.walk_path.result.now c.in-Ok-Some.row c.get.result.now
    c.in-Err-note.why c.loop-row.invariant.0
    (subst (λ o. IsNext rows c.walk_path.result.now o) c.in-Ok-Some.field-0-is
    c.in-Ok-Some.ensures.next) c.walk_path.ensures c.get.ensures c.in-Err-note.ensures

pub loop-row-smaller : goal.loop-row-smaller
loop-row-smaller g c =
    let rows = c.args.store.now.rows in
    let next = subst (λ o. IsNext rows c.walk_path.result.now o) c.in-Ok-Some.field-0-is
    c.in-Ok-Some.ensures.next in
    goes_on rows (walk_path c.loop-row.last) c.in-Ok-Some.row
    (subst (λ p. IsNext rows p (Some c.in-Ok-Some.row)) c.walk_path.ensures next)
