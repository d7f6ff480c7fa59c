-- Answers of Reader::kind.
use Rattle.kr_store.proofs.Parts.{bad_kind}
use Rattle.kr_store.proofs.Steps.{breaks_here, was_broken}
use Rattle.kr_store.proofs.reader.Reader.kind.Goals as goal

pub returns-in-None : goal.returns-in-None
returns-in-None g c = record {
  reads = was_broken _ c.fill.new.self _ _ _
      c.in_ok-fill.ensures.advances
      (breaks_here _ c.fill.new.self c.fill.new.into _ _ c.in_ok-fill.ensures.read
      c.in_ok-fill.ensures.advances
      (λ rest. bad_kind c.fill.new.into rest c.fill.auto.into c.in-None.ensures.0
      c.in-None.ensures.1));
}
