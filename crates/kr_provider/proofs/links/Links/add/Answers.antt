-- `Links::add`: names stay distinct with another.
use Rattle.std.proofs.Common.{Bool, true, false, sym, subst, List, [], ◌≡◌, ◌∷◌, ◌++◌}
use Rattle.std.specs.Prelude.{Contains, is_ok, if◌then◌else◌}
use Rattle.kr_kms.specs.Calls.{Link}
use Rattle.kr_provider.specs.Names.{AreDistinct, names_of}
use Rattle.kr_provider.proofs.LinkNames.{with_one}
use Rattle.kr_provider.proofs.links.Links.add.Goals as goal

more : {L : Type 0} (link : L → Link) (old new : List L) (l : L) (b : Bool)
    → new ≡ (if b then old ++ l ∷ [] else old) → AreDistinct link old
    → (Contains (names_of link old) (link l).name → ⊥) → AreDistinct link new
more link old new l true e d n = subst (AreDistinct link) (sym e) (with_one link old l d n)
more link old new l false e d n = subst (AreDistinct link) (sym e) d

pub invariant_of-self : goal.invariant_of-self
invariant_of-self g c = more g.L.Kms.link c.self.inside.items.items c.push.new.self.items c.args.link
    (is_ok c.push.result) c.push.ensures.items c.self.invariant
    (let P : List g.row.L.Denot → Type 0 = λ links.
    Contains (names_of g.L.Kms.link links) (g.L.Kms.link c.args.link).name → ⊥ in
    subst P (sym c.self.view_is) c.requires)
