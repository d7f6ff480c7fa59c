use Rattle.std.proofs.Common.{Err, sym, ◌∙◌, ap, subst}
use Rattle.kr_cmd_steps.specs.Phases.{stored_on}
use Rattle.kr_cmd_steps.specs.inner.Lent.{with_lent_tape}
use Rattle.kr_cmd_steps.specs.inner.Phases.{Does}
use Rattle.kr_cmd_steps.specs.inner.Tapes.{load_stop}
use Rattle.kr_cmd_steps.proofs.Loading.{gives_store, load_counted, refuses_store}
use Rattle.kr_cmd_steps.proofs.stores.load_store.Goals as goal

pub returns-in-Ok-clause-ok : goal.returns-in-Ok-clause-ok
returns-in-Ok-clause-ok g c name a = let loads = c.in-Ok.ensures.loads in
    gives_store name (g.T.Tape.told c.args.tape) (g.T.Tape.count c.args.tape) a c.args.object
    c.in-Ok.store loads.0 loads.1 loads.2 loads.3 c.in-Ok.ensures.kept.1 c.in-Ok.ensures.kept.3

pub returns-in-Ok-clause-limit : goal.returns-in-Ok-clause-limit
returns-in-Ok-clause-limit g c = (c.in-Ok.ensures.kept.0, c.in-Ok.ensures.kept.2)

pub returns-in-Ok-clause-loaded : goal.returns-in-Ok-clause-loaded
returns-in-Ok-clause-loaded g c = let loads = c.in-Ok.ensures.loads in record {
  bytes = loads.0;
  agrees = loads.1;
  within = loads.2;
  file = loads.3;
  length_is = loads.4;
  told_is = c.in-Ok.ensures.kept.1;
  later = c.in-Ok.ensures.kept.3;
}

pub returns-in-Err-clause-err : goal.returns-in-Err-clause-err
returns-in-Err-clause-err g c name a =
    let told = g.T.Tape.told c.args.tape in
    let before = g.T.Tape.count c.args.tape in
    let back = g.T.Tape.told c.in-Err.tape in
    let count = g.T.Tape.count c.in-Err.tape in
    subst (λ stop. Does (stored_on c.args.object name) (with_lent_tape name told before a)
    (with_lent_tape name back count a) (Err stop))
    (ap (λ n. load_stop c.args.object n c.in-Err.why) (sym c.faults-faults.ensures)
    ∙ sym c.load_stop.ensures)
    (refuses_store name told before a c.args.object c.in-Err.tape back count c.in-Err.why
    c.in-Err.ensures.loads c.in-Err.ensures.same.0 c.in-Err.ensures.same.1 c.in-Err.ensures.failed)

pub returns-in-Err-clause-once : goal.returns-in-Err-clause-once
returns-in-Err-clause-once g c = load_counted (g.T.Tape.count c.args.tape)
    (g.T.Tape.count c.in-Err.tape) c.args.object c.faults-faults.result c.in-Err.why
    c.load_stop.result c.in-Err.ensures.once c.load_stop.ensures
