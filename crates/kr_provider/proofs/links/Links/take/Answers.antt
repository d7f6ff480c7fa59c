-- `Links::take`: names stay distinct without the last.
use Rattle.std.proofs.Common.{subst, ◌∙◌, Some, None, Option, List, ◌≡◌, ◌++◌, append-nil}
use Rattle.std.specs.Option.{option_to_list}
use Rattle.kr_kms.specs.Calls.{Link}
use Rattle.kr_provider.specs.Names.{AreDistinct}
use Rattle.kr_provider.proofs.LinkNames.{without_last}
use Rattle.kr_provider.proofs.links.Links.take.Goals as goal

rest : {L : Type 0} (link : L → Link) (old new : List L) (o : Option L)
    → old ≡ new ++ option_to_list o → AreDistinct link old → AreDistinct link new
rest link old new None e d = subst (AreDistinct link) (e ∙ append-nil new) d
rest link old new (Some last) e d = without_last link new last (subst (AreDistinct link) e d)

pub invariant_of-self : goal.invariant_of-self
invariant_of-self g c = rest g.L.Kms.link c.self.inside.items.items c.pop.new.self.items c.pop.result
    c.pop.ensures.items c.self.invariant
