use Rattle.std.proofs.Common.{Ok, Err, sym, ap, subst, ◌∙◌}
use Rattle.kr_config.specs.Kept.{rows_of}
use Rattle.kr_opening.specs.Replicas.{first_rows, rows_in}
use Rattle.kr_opening.specs.inner.OpeningBoards.{TakesAllUp}
use Rattle.kr_opening.proofs.Boarding.{board_made, board_stray, board_unfit}
use Rattle.kr_opening.proofs.opening_board.make_opening_board.Goals as goal

pub returns-in-Ok-accept_all_settings : goal.returns-in-Ok-accept_all_settings
returns-in-Ok-accept_all_settings g c =
    board_made c.args.replicas.now.0 (rows_of c.first_settings.result.now.entries.0)
    c.args.store.now.rows c.args.generations c.in-Ok.board c.note_all.new.board
    (sym (ap (λ rs. first_rows (rows_in rs)) c.as_slice-replicas.ensures) ∙ c.first_settings.ensures)
    c.in-Ok.ensures c.accept_all_settings.new.board c.in-Ok-note_all.ensures
    (subst (λ rs. TakesAllUp (rows_in rs) c.note_all.new.board c.accept_all_settings.new.board (Ok tt))
    c.as_slice-replicas.ensures c.in-Ok-accept_all_settings.ensures)

pub returns-in-Err-accept_all_settings : goal.returns-in-Err-accept_all_settings
returns-in-Err-accept_all_settings g c =
    board_unfit c.args.replicas.now.0 (rows_of c.first_settings.result.now.entries.0)
    c.args.store.now.rows c.args.generations c.in-Ok.board c.note_all.new.board
    (sym (ap (λ rs. first_rows (rows_in rs)) c.as_slice-replicas.ensures) ∙ c.first_settings.ensures)
    c.in-Ok.ensures c.accept_all_settings.new.board c.in-Err-accept_all_settings.why c.in-Ok-note_all.ensures
    (subst (λ rs. TakesAllUp (rows_in rs) c.note_all.new.board c.accept_all_settings.new.board
    (Err c.in-Err-accept_all_settings.why)) c.as_slice-replicas.ensures c.in-Err-accept_all_settings.ensures)

pub returns-in-Err-note_all : goal.returns-in-Err-note_all
returns-in-Err-note_all g c =
    board_stray c.args.replicas.now.0 (rows_of c.first_settings.result.now.entries.0)
    c.args.store.now.rows c.args.generations c.in-Ok.board c.note_all.new.board
    (sym (ap (λ rs. first_rows (rows_in rs)) c.as_slice-replicas.ensures)
    ∙ c.first_settings.ensures)
    c.in-Ok.ensures c.in-Err-note_all.why c.in-Err-note_all.ensures
