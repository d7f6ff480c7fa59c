-- `Links::place`: the slice is what contracts see of the links.
use Rattle.std.proofs.Common.{◌≡◌, ◌<◌, ◌∙◌, Contains, Some, length, sym, subst}
use Rattle.std.specs.Prelude.{position}
use Rattle.std.specs.Str.{bytes_eq}
use Rattle.kr_provider.specs.Names.{names_of}
use Rattle.kr_provider.proofs.links.Links.place.Goals as goal

pub plugin_link_place-requires : goal.plugin_link_place-requires
plugin_link_place-requires g c = subst (λ l. Contains (names_of g.L.Kms.link l) c.args.name.now)
    (sym (c.as_slice.ensures.value ∙ c.self.view_is)) c.requires

pub returns-clause-place : goal.returns-clause-place
returns-clause-place g c = subst (λ l. position (λ k. bytes_eq (g.L.Kms.link k).name c.args.name.now) l
    ≡ Some c.plugin_link_place.result) (c.as_slice.ensures.value ∙ c.self.view_is)
    c.plugin_link_place.ensures.place

pub returns-clause-within : goal.returns-clause-within
returns-clause-within g c = subst (λ l. c.plugin_link_place.result < length l)
    (c.as_slice.ensures.value ∙ c.self.view_is) c.plugin_link_place.ensures.within
