-- `Bench::adopt`: the links serve the configuration that is adopted then.
use Rattle.std.proofs.Common.{List, ℕ, ◌≡◌, Some, Ok, Err, Result, ap, sym, subst}
use Rattle.std.specs.Prelude.{OnErr, OnOk}
use Rattle.kr_provider.specs.BenchState.{Adoption}
use Rattle.kr_provider.specs.Names.{HasAdoptedLinks, HasLinks, names_of}
use Rattle.kr_provider.specs.Publication.{Publication}
use Rattle.kr_provider.proofs.bench.Bench.adopt.Goals as goal

serves : {T E : Type 0} (names : List (List ℕ)) (r : Result T E) (old new : Adoption)
    (p : Publication) → OnErr r (new ≡ old) → OnOk r (new.published ≡ Some p)
    → HasLinks names p.rows → HasAdoptedLinks names old.published
    → HasAdoptedLinks names new.published
serves names (Ok x) old new p e k h a = subst (HasAdoptedLinks names) (sym k) h
serves names (Err x) old new p e k h a =
    subst (HasAdoptedLinks names) (sym (ap (λ (b : Adoption). b.published) e)) a

pub invariant_of-self : goal.invariant_of-self
invariant_of-self g c =
    serves (names_of g.L.Kms.link c.self.inside.links) c.adopt-adopted.result c.self.inside.adoption
    c.adopt-adopted.new.self c.args.published c.adopt-adopted.ensures.unchanged
    c.adopt-adopted.ensures.kept
    (subst (λ b. HasLinks (names_of g.L.Kms.link b.links) c.args.published.rows)
    (sym c.self.view_is) c.requires.links) c.self.invariant
