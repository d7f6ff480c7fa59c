-- The store is loaded, and its live rows are listed.
use Rattle.std.proofs.Common.{List}
use Rattle.kr_store.specs.Stores.{IsListing}
use Rattle.kr_store.specs.declared.rows.Row.{Row}
use Rattle.kr_cmd_steps.specs.Phases.{stored_on}
use Rattle.kr_cmd_steps.specs.Steps.{find, give}
use Rattle.kr_cmd_steps.specs.inner.Lent.{with_lent_tape}
use Rattle.kr_cmd_steps.specs.inner.Tapes.{stored_of}
use Rattle.kr_cmd_messages.specs.declared.refusal.Object.TheVariants.{Store}
use Rattle.kr_cmd_steps.proofs.RunTo.{goes_on, stops}
use Rattle.kr_cmd_steps.proofs.Loading.{as_closed}
use Rattle.kr_cmd_store.specs.inner.Verifying.{rows_listed}
use Rattle.kr_cmd_store.proofs.LiveRows.{live_found}
use Rattle.kr_cmd_store.proofs.verifying.live_rows_on_tape.Goals as goal

pub returns-in-Err-clause-does : goal.returns-in-Err-clause-does
returns-in-Err-clause-does g c name a =
    stops (stored_on Store name) _ c.in-Err.stop (c.in-Err.ensures.err name a)

pub returns-clause-does : goal.returns-clause-does
returns-clause-does g c name a =
    let store = c.in-Ok.store in
    let now = with_lent_tape name store.told store.count a in
    goes_on (stored_on Store name) (λ read. find (List Row) (IsListing read.rows) give)
    (stored_of store) (c.in-Ok.ensures.ok name a)
    (as_closed (find (List Row) (IsListing store.rows) give) name a now
    c.close.ensures.told c.close.ensures.count
    (live_found store.rows now (rows_listed c.live_rows-rows.result)
    c.live_rows-rows.ensures.listing))
