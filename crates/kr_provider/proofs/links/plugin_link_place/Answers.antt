-- `plugin_link_place`: a name that a link has is found.
use Rattle.std.proofs.Common.{◌∙◌, Bool, sym}
use Rattle.std.specs.Str.{bytes_eq}
use Rattle.kr_kms.proofs.Lent.{no_place}
use Rattle.kr_provider.proofs.AskedLists.{place_there}
use Rattle.kr_provider.proofs.links.plugin_link_place.Goals as goal

pub unreachable-requires : goal.unreachable-requires
unreachable-requires g c =
    let test : g.row.L.Denot → Bool = λ l. bytes_eq (g.L.Kms.link l).name c.args.name.now in
    place_there g.L.Kms.link c.args.name.now c.args.links.now c.requires
    (no_place test c.args.links.now (sym c.find_plugin_link.ensures ∙ c.in_default.is))
