-- Answers of Reader::value_as_read.
use Rattle.std.proofs.Common.{if◌then◌else◌, Err, nat_le, subst, sym}
use Rattle.kr_store.specs.Breaches.{number_32, part}
use Rattle.kr_store.specs.Rows.{longest_value}
use Rattle.kr_store.specs.File.{value_bytes}
use Rattle.kr_store.specs.inner.Reading.{Reads, items_of}
use Rattle.kr_store.specs.declared.answers.Cause.TheVariants.{BadRow}
use Rattle.kr_store.proofs.Parts.{bad_value, reads_32, at_most}
use Rattle.kr_store.proofs.Steps.{breaks_here, was_broken, stops_behind}
use Rattle.kr_store.proofs.reader.Reader.value_as_read.Goals as goal

pub returns-then-n-gt-LONGEST_VALUE-clause-reads : goal.returns-then-n-gt-LONGEST_VALUE-clause-reads
returns-then-n-gt-LONGEST_VALUE-clause-reads g c = was_broken _ c.number_32.new.self _ _ _
    c.in_ok-n.ensures.reads.advances
    (breaks_here _ c.number_32.new.self _ _ _
    c.in_ok-n.ensures.reads.gives c.in_ok-n.ensures.reads.advances
    (λ rest. bad_value c.in_ok-n.n rest c.in_ok-n.ensures.fits c.if-n-gt-LONGEST_VALUE.true))

pub returns-in-Err-clause-reads : goal.returns-in-Err-clause-reads
returns-in-Err-clause-reads g c = stops_behind _ c.number_32.new.self c.part.new.self _
    number_32 (λ n rest. if nat_le n longest_value then part n rest else Err BadRow) c.in_ok-n.n
    items_of value_bytes c.in-Err.stop c.in_ok-n.ensures.reads.gives
    c.in_ok-n.ensures.reads.advances
    (λ rest. reads_32 c.in_ok-n.n rest c.in_ok-n.ensures.fits)
    (subst (λ b. Reads c.number_32.new.self c.part.new.self items_of
    (λ rest. if b then part c.in_ok-n.n rest else Err BadRow) (Err c.in-Err.stop))
    (sym (at_most c.in_ok-n.n longest_value c.if-n-gt-LONGEST_VALUE.false))
    c.in-Err.ensures.reads)
