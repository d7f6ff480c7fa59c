-- Answers of Reader::number_32.
use Rattle.std.proofs.Common.{sym, subst}
use Rattle.std.proofs.lemmas.Nat.{be_bytes_4}
use Rattle.kr_store.specs.inner.Reading.{Takes}
use Rattle.kr_store.proofs.Steps.{was_read}
use Rattle.kr_store.proofs.reader.Reader.number_32.Goals as goal

pub returns-clause-reads : goal.returns-clause-reads
returns-clause-reads g c = was_read _ c.fill.new.self _ _ _ c.in_ok-fill.ensures.advances
    (subst (λ b. Takes c.args.self.now c.fill.new.self b)
    (sym (be_bytes_4 c.fill.new.into c.from_be_bytes.result c.fill.auto.into c.known.ensures
    c.from_be_bytes.ensures)) c.in_ok-fill.ensures.read)
