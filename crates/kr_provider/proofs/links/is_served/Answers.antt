-- `is_served`: a plugin is served where a link has its name, and all others are.
use Rattle.std.proofs.Common.{sym, ap, ◌∙◌}
use Rattle.std.specs.List.{list_any}
use Rattle.std.specs.Str.{bytes_eq}
use Rattle.kr_provider.specs.inner.Scan.{is_served}
use Rattle.kr_provider.proofs.links.is_served.Goals as goal

pub returns-in-Identity : goal.returns-in-Identity
returns-in-Identity g c = sym (ap (is_served g.L.Kms.link c.args.links.now) c.in-Identity.is)

pub returns-in-Aescbc : goal.returns-in-Aescbc
returns-in-Aescbc g c = sym (ap (is_served g.L.Kms.link c.args.links.now) c.in-Aescbc.is)

pub returns-in-Aesgcm : goal.returns-in-Aesgcm
returns-in-Aesgcm g c = sym (ap (is_served g.L.Kms.link c.args.links.now) c.in-Aesgcm.is)

pub returns-in-Kms : goal.returns-in-Kms
returns-in-Kms g c = c.any_named.ensures
    ∙ ap (λ n. list_any (λ link. bytes_eq (g.L.Kms.link link).name n) c.args.links.now)
    c.as_str.ensures
    ∙ sym (ap (is_served g.L.Kms.link c.args.links.now) c.in-Kms.is)
