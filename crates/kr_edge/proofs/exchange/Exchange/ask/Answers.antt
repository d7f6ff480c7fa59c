-- An exchange that was broken before, one that is cut off, and one that is whole.
use Rattle.std.proofs.Common.{length, refl, sym, ◌∙◌, arith}
use Rattle.std.proofs.lemmas.Bool.{false≢true}
use Rattle.kr_edge.proofs.Asking.{cut_before, not_asked, not_read}
use Rattle.kr_edge.proofs.exchange.Exchange.ask.Goals as goal

pub returns-then-self-clause-err : goal.returns-then-self-clause-err
returns-then-self-clause-err g c = cut_before _ _ c.if-self.true

pub returns-in_err-write_all-clause-err : goal.returns-in_err-write_all-clause-err
returns-in_err-write_all-clause-err g c = not_asked c.from_residual.result _ _ _
    c.if-self.false c.in_err-write_all.ensures.err c.in_err-write_all.ensures.cause.failed
    c.in_err-write_all.ensures.cause.once refl refl

pub returns-in_err-size-clause-err : goal.returns-in_err-size-clause-err
returns-in_err-size-clause-err g c = not_read c.from_residual-in_err-size.result _ _ _
    (length c.read_line.new.line) c.if-self.false c.in_ok-write_all.ensures.ok
    (omega (arith, c.args.self.now.line.size)) c.in_err-size.ensures.err
    c.in_ok-write_all.ensures.cause.once refl

-- what is broken doesn't come as far as a write
pub returns-clause-broken : goal.returns-clause-broken
returns-clause-broken g c = λ broken. absurd (false≢true (sym c.if-self.false ∙ broken))

pub returns-in_err-size-clause-broken : goal.returns-in_err-size-clause-broken
returns-in_err-size-clause-broken g c =
    λ broken. absurd (false≢true (sym c.if-self.false ∙ broken))

pub returns-in_err-write_all-clause-broken : goal.returns-in_err-write_all-clause-broken
returns-in_err-write_all-clause-broken g c =
    λ broken. absurd (false≢true (sym c.if-self.false ∙ broken))
