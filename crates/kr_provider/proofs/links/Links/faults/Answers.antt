-- `Links::faults`: the count of the link of the name.
use Rattle.std.proofs.Common.{◌≡◌, ◌∙◌, Contains, sym, subst}
use Rattle.kr_provider.specs.AskedLinks.{HasLinkWith}
use Rattle.kr_provider.specs.Names.{names_of}
use Rattle.kr_provider.proofs.links.Links.faults.Goals as goal

pub link_faults-requires : goal.link_faults-requires
link_faults-requires g c = subst (λ l. Contains (names_of g.L.Kms.link l) c.args.name.now)
    (sym (c.as_slice.ensures.value ∙ c.self.view_is)) c.requires

pub returns : goal.returns
returns g c = subst
    (λ l. HasLinkWith g.L.Kms.link c.args.name.now (λ k. c.link_faults.result ≡ k.count) l)
    (c.as_slice.ensures.value ∙ c.self.view_is) c.link_faults.ensures
