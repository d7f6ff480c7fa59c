-- `load_target`: the tape tells that it has no bytes, and then it is read.
use Rattle.std.proofs.Common.{arith}
use Rattle.kr_cmd_store.proofs.Migrating.{size_failed, size_refused, sized_err, sized_ok}
use Rattle.kr_cmd_store.proofs.migration.load_target.Goals as goal

pub returns-in-Err-clause-err : goal.returns-in-Err-clause-err
returns-in-Err-clause-err g c name a =
    size_failed name (g.T.Tape.told c.args.tape) (g.T.Tape.count c.args.tape) a
    (g.T.Tape.told c.len.new.self) (g.T.Tape.count c.len.new.self) c.faults-faults.result
    c.in-Err.ensures.cause.later c.in-Err.ensures.same c.in-Err.ensures.cause.failed
    c.faults-faults.ensures

pub returns-then-length-gt0-clause-err : goal.returns-then-length-gt0-clause-err
returns-then-length-gt0-clause-err g c name a =
    size_refused name (g.T.Tape.told c.args.tape) (g.T.Tape.count c.args.tape) a
    (g.T.Tape.told c.len.new.self) (g.T.Tape.count c.len.new.self) c.in-Ok.length
    c.in-Ok.ensures.cause.later c.in-Ok.ensures.same c.in-Ok.ensures.length c.if-length-gt0.true

pub returns-clause-ok : goal.returns-clause-ok
returns-clause-ok g c = sized_ok (g.T.Tape.told c.args.tape) (g.T.Tape.count c.args.tape)
    (g.T.Tape.told c.len.new.self) (g.T.Tape.count c.len.new.self) c.in-Ok.length
    c.in-Ok.ensures.cause.later c.in-Ok.ensures.same (omega (arith, c.if-length-gt0.false))
    c.in-Ok.ensures.length c.load_empty.result c.load_empty.ensures.ok

pub returns-clause-err : goal.returns-clause-err
returns-clause-err g c = sized_err (g.T.Tape.told c.args.tape) (g.T.Tape.count c.args.tape)
    (g.T.Tape.told c.len.new.self) (g.T.Tape.count c.len.new.self) c.in-Ok.length
    c.in-Ok.ensures.cause.later c.in-Ok.ensures.same (omega (arith, c.if-length-gt0.false))
    c.in-Ok.ensures.length g.T.Tape.told g.T.Tape.count c.load_empty.result
    c.load_empty.ensures.err
