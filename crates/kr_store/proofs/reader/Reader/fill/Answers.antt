-- Answers of Reader::fill.
use Rattle.std.proofs.Common.{length, ◌+◌, ◌<◌, Err, subst, sym, ◌∙◌, inl, arith}
use Rattle.kr_store.specs.inner.Reading.{Ahead, Breaks, Fills}
use Rattle.kr_store.specs.Breaches.{part}
use Rattle.kr_store.specs.declared.answers.Cause.TheVariants.{Torn}
use Rattle.kr_store.proofs.Steps.{Filling, moves_both, torn, filling_more, filled, over, rest_length, short_behind}
use Rattle.kr_store.proofs.Fillings.{stays_torn, begins_filling, not_filled}
use Rattle.kr_store.proofs.reader.Reader.fill.Goals as goal

pub returns-then-self-into-clause-read : goal.returns-then-self-into-clause-read
returns-then-self-into-clause-read g c = subst (λ (a : Ahead). Breaks a
    (part (length c.args.into.now)) Torn) c.self.view_is
    (torn (g.T.Tape.told c.self.inside.tape) c.self.inside.place c.self.inside.end
    (g.T.Tape.count c.self.inside.tape) _ c.self.invariant.1 c.self.invariant.0
    c.if-self-into.true)

pub loop-done-preserved : goal.loop-done-preserved
loop-done-preserved g c = subst (λ b. Filling c.args.self.now c.some.new.self b
    (c.loop-done.done + c.in-Ok.n))
    (sym (over c.loop-done.into c.some.new.into c.loop-done.done c.loop-done.invariant.within))
    (filling_more c.args.self.now c.loop-done.self c.some.new.self c.loop-done.into c.some.new.into
    c.loop-done.done c.in-Ok.n c.loop-done.invariant c.loop-done.invariant.within
    (c.some.auto.into ∙ rest_length c.loop-done.into c.loop-done.done) c.in-Ok.ensures.read.1
    c.in-Ok.ensures.advances c.in-Ok.ensures.read.2)

pub returns-in-Err-clause-short : goal.returns-in-Err-clause-short
returns-in-Err-clause-short g c = short_behind c.args.self.now c.loop-done.self c.some.new.self
    c.loop-done.into c.loop-done.done (length c.args.into.now) c.some.new.into c.in-Err.stop
    c.loop-done.invariant c.in-Err.ensures.read

pub returns-then-self-into-clause-advances : goal.returns-then-self-into-clause-advances
returns-then-self-into-clause-advances g c = stays_torn (g.T.Tape.told c.self.inside.tape)
    c.self.inside.place c.self.inside.end (g.T.Tape.count c.self.inside.tape) c.args.self.now
    c.self.invariant.1 c.self.invariant.0 c.self.view_is

pub returns-then-self-into-clause-short : goal.returns-then-self-into-clause-short
returns-then-self-into-clause-short g c = inl (subst
    (λ (a : Ahead). a.end < a.place + length c.args.into.now) c.self.view_is
    (omega (arith, c.if-self-into.true)))

pub returns-in-Err-clause-advances : goal.returns-in-Err-clause-advances
returns-in-Err-clause-advances g c = moves_both c.args.self.now c.loop-done.self c.some.new.self
    c.loop-done.invariant.moves c.in-Err.ensures.advances

pub returns-in-Err-clause-read : goal.returns-in-Err-clause-read
returns-in-Err-clause-read g c = subst (λ b. Fills {A = Unit {0}} c.args.self.now c.some.new.self b
    (Err c.in-Err.stop))
    (sym (over c.loop-done.into c.some.new.into c.loop-done.done c.loop-done.invariant.within))
    (not_filled c.args.self.now c.loop-done.self c.some.new.self c.loop-done.into
    c.some.new.into c.loop-done.done c.in-Err.stop c.loop-done.invariant c.loop-done-test.true
    (c.some.auto.into ∙ rest_length c.loop-done.into c.loop-done.done) c.in-Err.ensures.read)

pub returns-clause-advances : goal.returns-clause-advances
returns-clause-advances g c = c.loop-done.invariant.moves

pub returns-clause-read : goal.returns-clause-read
returns-clause-read g c = filled c.args.self.now c.loop-done.self c.loop-done.into
    c.loop-done.done c.loop-done.invariant (omega (arith, c.loop-done-test.false))

pub loop-done-init : goal.loop-done-init
loop-done-init g c = begins_filling (g.T.Tape.told c.self.inside.tape) c.self.inside.place
    c.self.inside.end (g.T.Tape.count c.self.inside.tape) c.args.self.now c.args.into.now
    c.self.invariant.1 c.self.invariant.0 (omega (arith, c.if-self-into.false)) c.self.view_is

pub some-requires-clause-within : goal.some-requires-clause-within
some-requires-clause-within g c = omega
    (arith, rest_length c.loop-done.into c.loop-done.done, c.loop-done.invariant.room)
