use Rattle.std.proofs.Common.{sym, subst}
use Rattle.kr_cmd_steps.specs.Phases.{stored_on, show}
use Rattle.kr_cmd_steps.specs.RowLines.{ShowsRows}
use Rattle.kr_cmd_steps.specs.inner.Lent.{with_lent_tape}
use Rattle.kr_cmd_steps.specs.inner.Phases.{Does}
use Rattle.kr_cmd_steps.specs.inner.Tapes.{stored_of}
use Rattle.kr_cmd_messages.specs.declared.refusal.Object.TheVariants.{Store}
use Rattle.kr_cmd_steps.proofs.RunTo.{goes_on, stops, shows}
use Rattle.kr_cmd_steps.proofs.Loading.{as_closed}
use Rattle.kr_cmd_store.proofs.rows.list_on_tape.Goals as goal

pub returns-in-Err : goal.returns-in-Err
returns-in-Err g c name a =
    stops (stored_on Store name) _ c.in-Err.stop (c.in-Err.ensures.err name a)

pub returns : goal.returns
returns g c name a =
    let store = c.in-Ok.store in
    let now = with_lent_tape name store.told store.count a in
    let next = show (ShowsRows store.rows) in
    goes_on (stored_on Store name) (λ stored. show (ShowsRows stored.rows)) (stored_of store)
    (c.in-Ok.ensures.ok name a)
    (as_closed next name a now c.close.ensures.told c.close.ensures.count
    (subst (λ r. Does next now now r) (sym c.show-made.ensures)
    (shows (ShowsRows store.rows) now c.row_lines.result c.row_lines.ensures)))
