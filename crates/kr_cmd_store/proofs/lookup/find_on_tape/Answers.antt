-- The store is loaded, and the path looked up in its rows.
use Rattle.kr_store.specs.Rows.{live}
use Rattle.kr_cmd_steps.specs.Phases.{by_result, stored_on, with_memory}
use Rattle.kr_cmd_steps.specs.StoreSteps.{row_found}
use Rattle.kr_cmd_steps.specs.inner.Lent.{with_lent_tape}
use Rattle.kr_cmd_steps.specs.inner.Tapes.{stored_of}
use Rattle.kr_cmd_messages.specs.declared.refusal.Object.TheVariants.{Store}
use Rattle.kr_cmd_store.proofs.Found.{looks_up}
use Rattle.kr_cmd_steps.proofs.RunTo.{goes_on, stops}
use Rattle.kr_cmd_steps.proofs.Loading.{as_closed}
use Rattle.kr_cmd_store.proofs.lookup.find_on_tape.Goals as goal

pub returns-in-Err-clause-does : goal.returns-in-Err-clause-does
returns-in-Err-clause-does g c name a =
    stops (stored_on Store name) _ c.in-Err.stop (c.in-Err.ensures.err name a)

pub returns-clause-does : goal.returns-clause-does
returns-clause-does g c name a =
    let store = c.in-Ok.store in
    let path = c.args.path.now in
    let now = with_lent_tape name store.told store.count a in
    goes_on (stored_on Store name)
    (λ read. with_memory (by_result (row_found path (live read.rows path)))) (stored_of store)
    (c.in-Ok.ensures.ok name a)
    (as_closed (with_memory (by_result (row_found path (live store.rows path)))) name a now
    c.close.ensures.told c.close.ensures.count
    (looks_up path store.rows now c.find_live_row-row.result c.find_live_row-row.ensures.row))
