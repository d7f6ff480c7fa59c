use Rattle.std.proofs.Common.{rules}
use Rattle.kr_base.proofs.Transferring.{wrote-more, wrote-front, wrote-all}
use Rattle.kr_base.proofs.transfer.write_all.Goals as goal

pub loop-written-preserved : goal.loop-written-preserved
loop-written-preserved g c = wrote-more c.in_ok-n.n _ c.loop-written.invariant
    c.in_ok-n.ensures.bound c.in_ok-n.ensures.bytes c.in_ok-n.ensures.cause.once

pub returns-in_err-n-clause-err : goal.returns-in_err-n-clause-err
returns-in_err-n-clause-err g c =
    let front = wrote-front _ c.loop-written.invariant c.in_err-n.ensures.bytes in
    search (rules, front)

pub returns-clause-ok : goal.returns-clause-ok
returns-clause-ok g c = wrote-all c.loop-written.invariant c.loop-written-test.false
