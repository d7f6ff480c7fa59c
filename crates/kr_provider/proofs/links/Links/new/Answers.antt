-- `Links::new`: no names are distinct.
use Rattle.std.proofs.Common.{sym, subst}
use Rattle.kr_provider.specs.Names.{AreDistinct}
use Rattle.kr_provider.proofs.LinkNames.{distinct_none}
use Rattle.kr_provider.proofs.links.Links.new.Goals as goal

pub invariant_of-result : goal.invariant_of-result
invariant_of-result g c = subst (AreDistinct g.L.Kms.link) (sym c.new.ensures.items)
    (distinct_none g.L.Kms.link)
