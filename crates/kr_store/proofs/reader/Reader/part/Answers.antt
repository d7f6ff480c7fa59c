-- Answers of Reader::part.
use Rattle.std.proofs.Common.{Err, subst}
use Rattle.kr_store.specs.inner.Reading.{Ahead, Reads, items_of}
use Rattle.kr_store.specs.Breaches.{part}
use Rattle.kr_store.specs.declared.answers.LoadStop.TheVariants.{Breach}
use Rattle.kr_store.specs.declared.answers.Cause.TheVariants.{Torn}
use Rattle.kr_store.proofs.Steps.{torn, stays, was_broken, seen}
use Rattle.kr_store.proofs.reader.Reader.part.Goals as goal

pub returns-then-self-n-clause-reads : goal.returns-then-self-n-clause-reads
returns-then-self-n-clause-reads g c =
    let r = c.self.inside in
    let told = g.T.Tape.told r.tape in
    let count = g.T.Tape.count r.tape in
    subst (λ (a : Ahead). Reads a a items_of (part c.args.n) (Err (Breach Torn))) c.self.view_is
    (was_broken (seen told r.place r.end count) (seen told r.place r.end count) items_of
    (part c.args.n) Torn
    (stays told r.place r.end count c.self.invariant.1 c.self.invariant.0)
    (torn told r.place r.end count _ c.self.invariant.1 c.self.invariant.0 c.if-self-n.true))
