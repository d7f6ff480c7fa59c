-- `load_counted`: a tape whose count can't rise counts as failed.
use Rattle.std.proofs.Common.{◌∙◌, Err, sym, subst, inr}
use Rattle.kr_base.proofs.Counting.{Rose-later}
use Rattle.kr_store.specs.declared.answers.StoreNo.TheVariants as no
use Rattle.kr_cmd_messages.specs.declared.refusal.Object.TheVariants.{Store}
use Rattle.kr_cmd_messages.specs.declared.refusal.Stop.TheVariants.{Fault}
use Rattle.kr_cmd_steps.specs.Phases.{stored_on}
use Rattle.kr_cmd_steps.specs.inner.Lent.{with_lent_tape}
use Rattle.kr_cmd_steps.specs.inner.Phases.{Does}
use Rattle.kr_cmd_steps.proofs.Loading.{as_closed, refuses_store}
use Rattle.kr_cmd_rewrite.proofs.rewriting.load_counted.Goals as goal

pub returns-then-faults-clause-err : goal.returns-then-faults-clause-err
returns-then-faults-clause-err g c name a =
    let store = c.in-Ok.store in
    let loaded = c.in-Ok.ensures.loaded in
    let told = g.T.Tape.told c.args.tape in
    let count = g.T.Tape.count c.args.tape in
    let top = sym c.faults-faults.ensures ∙ c.if-faults.true in
    subst (λ n. Does (stored_on Store name) (with_lent_tape name told count a)
    (with_lent_tape name (g.T.Tape.told c.close.result) (g.T.Tape.count c.close.result) a)
    (Err (Fault Store n))) (sym c.faults-faults.ensures)
    (as_closed (stored_on Store name) name a (with_lent_tape name told count a)
    c.close.ensures.told c.close.ensures.count
    (refuses_store name told count a Store c.args.tape store.told store.count no.Failed tt
    loaded.told_is loaded.later
    (λ failed. Rose-later count store.count store.count loaded.later (inr (top, top)))))
