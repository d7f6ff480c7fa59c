-- `load_empty`: a store that was read, and has no bytes.
use Rattle.std.proofs.Common.{arith}
use Rattle.kr_cmd_steps.specs.StoreSteps.{target_read}
use Rattle.kr_cmd_steps.specs.inner.Lent.{with_lent_tape}
use Rattle.kr_cmd_steps.proofs.Loading.{as_closed}
use Rattle.kr_cmd_store.proofs.Migrating.{target_filled, target_given, target_new, target_stops}
use Rattle.kr_cmd_store.proofs.migration.load_empty.Goals as goal

pub returns-in-Err-clause-err : goal.returns-in-Err-clause-err
returns-in-Err-clause-err g c name a =
    target_stops name c.in-Err.refused.0 (c.in-Err.ensures.err name a)

pub returns-then-length-gt0-clause-err : goal.returns-then-length-gt0-clause-err
returns-then-length-gt0-clause-err g c name a =
    let now = with_lent_tape name (g.T.Tape.told c.args.tape) (g.T.Tape.count c.args.tape) a in
    as_closed (target_read name) name a now c.close.ensures.told c.close.ensures.count
    (target_filled name (g.T.Tape.told c.args.tape) (g.T.Tape.count c.args.tape) a c.in-Ok.target
    c.in-Ok.ensures.loaded c.length-length.result c.length-length.ensures c.if-length-gt0.true)

pub returns-clause-ok : goal.returns-clause-ok
returns-clause-ok g c name a =
    target_given name (g.T.Tape.told c.args.tape) (g.T.Tape.count c.args.tape) a c.in-Ok.target
    c.in-Ok.ensures.loaded (omega (arith, c.length-length.ensures, c.if-length-gt0.false))

pub returns-clause-empty : goal.returns-clause-empty
returns-clause-empty g c =
    let new = target_new c.in-Ok.target c.in-Ok.ensures.loaded
    (omega (arith, c.length-length.ensures, c.if-length-gt0.false)) in record {
      format = new.0;
      rows = new.1;
      within = c.in-Ok.ensures.limit.0;
    }
