use Rattle.std.proofs.Common.{ℕ, arith, length-take}
use Rattle.kr_base.proofs.Transferring.{took-more, took-kept, took-all, took-count, took-at-most}
use Rattle.kr_base.proofs.transfer.read_all.Goals as goal

pub loop-preserved : goal.loop-preserved
loop-preserved g c = took-more c.read.new.into _ _ c.in-Ok.n _ c.loop.invariant c.in-Ok.ensures.bytes.0 c.in-Ok.ensures.bound.0 (omega arith) (omega arith) c.in-Ok-extend_from_slice.ensures.items c.in-Ok.ensures.cause.once

pub returns-in-Err-clause-whole : goal.returns-in-Err-clause-whole
returns-in-Err-clause-whole g c = took-kept _ c.loop.invariant c.in-Err.ensures.bytes

pub returns-then-n-eq0-clause-whole : goal.returns-then-n-eq0-clause-whole
returns-then-n-eq0-clause-whole g c = rw c.from_vec.ensures
    (took-all _ c.read.new.into c.in-Ok.n c.loop.invariant c.in-Ok.ensures.bytes c.if-n-eq0.true
    (omega (arith, length-take {A = ℕ})))

pub returns-then-n-rest-clause-whole : goal.returns-then-n-rest-clause-whole
returns-then-n-rest-clause-whole g c = took-count _ c.read.new.into c.in-Ok.n c.loop.invariant c.in-Ok.ensures.bytes.0 c.in-Ok.ensures.bound.0 (omega (arith, length-take {A = ℕ})) (omega arith)

pub returns-in-Err-extend_from_slice-clause-whole : goal.returns-in-Err-extend_from_slice-clause-whole
returns-in-Err-extend_from_slice-clause-whole g c = took-at-most _ c.read.new.into c.in-Ok.n c.loop.invariant c.in-Ok.ensures.bytes.0 c.in-Ok.ensures.bound.0 (omega arith)

pub unreachable-requires : goal.unreachable-requires
unreachable-requires g c = omega (arith, c.loop.invariant.turned, c.loop.taken.small)
