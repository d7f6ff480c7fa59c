use Rattle.std.proofs.Common.{rules}
use Rattle.kr_base.proofs.Pieces.{spoke-more, spoke-front, spoke-all}
use Rattle.kr_base.proofs.transfer.write_each.Goals as goal

pub loop-piece-preserved : goal.loop-piece-preserved
loop-piece-preserved g c = spoke-more _ _ _ _ c.loop-piece.invariant c.loop-piece-test.true
    c.as_bytes.ensures.value c.in_ok-write_all.ensures.ok c.in_ok-write_all.ensures.cause.once

pub returns-in_err-write_all-clause-err : goal.returns-in_err-write_all-clause-err
returns-in_err-write_all-clause-err g c =
    let front = spoke-front _ _ _ c.loop-piece.invariant c.loop-piece-test.true
    c.as_bytes.ensures.value c.in_err-write_all.ensures.err in search (rules, front)

pub returns-clause-ok : goal.returns-clause-ok
returns-clause-ok g c = spoke-all c.loop-piece.invariant c.loop-piece-test.false
