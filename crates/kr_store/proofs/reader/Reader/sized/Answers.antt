-- Answers of Reader::sized.
use Rattle.std.proofs.Common.{if◌then◌else◌, Err, nat_le, subst, sym}
use Rattle.kr_store.specs.Breaches.{number_16, part}
use Rattle.kr_store.specs.inner.Reading.{Reads, items_of, sized_bytes}
use Rattle.kr_store.specs.declared.answers.Cause.TheVariants.{BadRow}
use Rattle.kr_store.proofs.Parts.{bad_size, reads_16, at_most}
use Rattle.kr_store.proofs.Steps.{breaks_here, was_broken, stops_behind}
use Rattle.kr_store.proofs.reader.Reader.sized.Goals as goal

pub returns-then-n-most-clause-reads : goal.returns-then-n-most-clause-reads
returns-then-n-most-clause-reads g c = was_broken _ c.number_16.new.self _ _ _
    c.in_ok-n.ensures.reads.advances
    (breaks_here _ c.number_16.new.self _ _ _
    c.in_ok-n.ensures.reads.gives
    c.in_ok-n.ensures.reads.advances
    (λ rest. bad_size c.args.most c.in_ok-n.n rest c.in_ok-n.ensures.fits c.if-n-most.true))

pub returns-in-Err-clause-reads : goal.returns-in-Err-clause-reads
returns-in-Err-clause-reads g c = stops_behind _ c.number_16.new.self c.part.new.self _
    number_16 (λ n rest. if nat_le n c.args.most then part n rest else Err BadRow) c.in_ok-n.n
    items_of sized_bytes c.in-Err.stop c.in_ok-n.ensures.reads.gives
    c.in_ok-n.ensures.reads.advances
    (λ rest. reads_16 c.in_ok-n.n rest c.in_ok-n.ensures.fits)
    (subst (λ b. Reads c.number_16.new.self c.part.new.self items_of
    (λ rest. if b then part c.in_ok-n.n rest else Err BadRow) (Err c.in-Err.stop))
    (sym (at_most c.in_ok-n.n c.args.most c.if-n-most.false)) c.in-Err.ensures.reads)
