-- `copy_onto_tape`: the target is loaded, and the rows are copied.
use Rattle.std.proofs.Common.{map, sym, subst}
use Rattle.kr_config.specs.Kept.{rows_of}
use Rattle.kr_cmd_steps.specs.StoreSteps.{copied_into, copying, migrated_line, migrated_row, target_on}
use Rattle.kr_cmd_steps.specs.Phases.{silently}
use Rattle.kr_cmd_steps.specs.Steps.{and_then, give}
use Rattle.kr_cmd_steps.specs.inner.Lent.{with_lent_tape}
use Rattle.kr_cmd_steps.specs.inner.Phases.{Does}
use Rattle.kr_cmd_steps.specs.inner.Tapes.{stored_of}
use Rattle.kr_cmd_steps.proofs.RunTo.{goes_on, stops}
use Rattle.kr_cmd_steps.proofs.Loading.{as_closed}
use Rattle.kr_cmd_store.proofs.Migrating.{migrated_all}
use Rattle.kr_cmd_steps.proofs.Works.{lacks}
use Rattle.kr_cmd_store.proofs.migration.copy_onto_tape.Goals as goal

pub returns-in-Err : goal.returns-in-Err
returns-in-Err g c name a = stops (target_on name)
    (copied_into name (rows_of c.args.settings.now.entries.0) (stored_of c.args.source.now))
    c.in-Err.stop (c.in-Err.ensures.err name a)

pub returns-in-Err-migrated_line : goal.returns-in-Err-migrated_line
returns-in-Err-migrated_line g c name a =
    let next = copied_into name (rows_of c.args.settings.now.entries.0)
    (stored_of c.args.source.now) in
    let target = c.in-Ok.target in
    let now = with_lent_tape name (g.T.Tape.told c.args.tape) (g.T.Tape.count c.args.tape) a in
    as_closed (and_then (target_on name) next) name a now c.close.ensures.told
    c.close.ensures.count
    (goes_on (target_on name) next (stored_of target) (c.in-Ok.ensures.ok name a)
    (lacks (and_then (copying name (stored_of target)
    (map (migrated_row (rows_of c.args.settings.now.entries.0)) c.args.source.now.rows))
    (λ copied. give (silently (migrated_line c.args.source.now.rows))))
    (with_lent_tape name target.told target.count a)))

pub copy_rows-copied-requires : goal.copy_rows-copied-requires
copy_rows-copied-requires g c = record { empty = c.in-Ok.ensures.empty }

pub returns : goal.returns
returns g c name a =
    let rows = rows_of c.args.settings.now.entries.0 in
    let source = stored_of c.args.source.now in
    let next = copied_into name rows source in
    let target = c.in-Ok.target in
    let now = with_lent_tape name (g.T.Tape.told c.args.tape) (g.T.Tape.count c.args.tape) a in
    let grown = c.copy_rows-copied.new.target in
    as_closed (and_then (target_on name) next) name a now c.close-2.ensures.told
    c.close-2.ensures.count
    (goes_on (target_on name) next (stored_of target) (c.in-Ok.ensures.ok name a)
    (subst (λ r. Does (next (stored_of target))
    (with_lent_tape name target.told target.count a)
    (with_lent_tape name grown.told grown.count a) r) (sym c.answer_once_added.ensures)
    (migrated_all name rows source (stored_of target) c.copy_rows-copied.result
    c.in-Ok-migrated_line.line c.revision.result c.revision.ensures
    c.in-Ok-migrated_line.ensures (c.copy_rows-copied.ensures name a))))
