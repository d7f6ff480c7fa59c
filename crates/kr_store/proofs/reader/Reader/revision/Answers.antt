-- Answers of Reader::revision.
use Rattle.kr_store.proofs.Parts.{bad_revision}
use Rattle.kr_store.proofs.Steps.{breaks_here, was_broken}
use Rattle.kr_store.proofs.reader.Reader.revision.Goals as goal

pub returns-then-found-revision : goal.returns-then-found-revision
returns-then-found-revision g c = record {
  reads = was_broken _ c.number_64.new.self _ _ _
      c.in_ok-found.ensures.reads.advances
      (breaks_here _ c.number_64.new.self _ _ _
      c.in_ok-found.ensures.reads.gives c.in_ok-found.ensures.reads.advances
      (λ rest. bad_revision c.args.revision c.in_ok-found.found rest c.in_ok-found.ensures.fits
      c.if-found-revision.true));
}
