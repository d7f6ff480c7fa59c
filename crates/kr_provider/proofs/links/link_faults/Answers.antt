-- `link_faults`: the link stands at the place of its name.
use Rattle.std.proofs.Common.{◌≡◌}
use Rattle.kr_kms.specs.Calls.{Link}
use Rattle.kr_provider.proofs.AskedLists.{place_has}
use Rattle.kr_provider.proofs.links.link_faults.Goals as goal

pub returns : goal.returns
returns g c = place_has g.L.Kms.link c.args.name.now (λ (l : Link). c.faults.result ≡ l.count)
    c.args.links.now c.plugin_link_place-at.result c.index-links-at.result c.plugin_link_place-at.ensures.place
    c.index-links-at.is c.faults.ensures
