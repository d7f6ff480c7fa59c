-- `load_source`: a store that was read, and has no bytes of the second format.
use Rattle.std.proofs.Common.{sym, ◌∙◌}
use Rattle.kr_cmd_steps.specs.StoreSteps.{source_on}
use Rattle.kr_cmd_steps.specs.inner.Lent.{with_lent_tape}
use Rattle.kr_cmd_steps.proofs.Loading.{as_closed}
use Rattle.kr_cmd_store.proofs.Migrating.{source_given, source_new, source_stops}
use Rattle.kr_cmd_store.proofs.migration.load_source.Goals as goal

pub returns-in-Err-clause-err : goal.returns-in-Err-clause-err
returns-in-Err-clause-err g c name a =
    source_stops name c.in-Err.refused.0 (c.in-Err.ensures.err name a)

pub returns-then-is_new-clause-err : goal.returns-then-is_new-clause-err
returns-then-is_new-clause-err g c name a =
    let now = with_lent_tape name (g.T.Tape.told c.args.tape) (g.T.Tape.count c.args.tape) a in
    as_closed (source_on name) name a now c.close.ensures.told c.close.ensures.count
    (source_new name (g.T.Tape.told c.args.tape) (g.T.Tape.count c.args.tape) a c.in-Ok.source
    c.in-Ok.ensures.loaded (sym c.is_new.ensures ∙ c.if-is_new.true))

pub returns-clause-ok : goal.returns-clause-ok
returns-clause-ok g c name a =
    source_given name (g.T.Tape.told c.args.tape) (g.T.Tape.count c.args.tape) a c.in-Ok.source
    c.in-Ok.ensures.loaded (sym c.is_new.ensures ∙ c.if-is_new.false)
