-- `Links::serve`: the test tells that each name is there.
use Rattle.std.proofs.Common.{◌≡◌, Bool, sym, ◌∙◌, subst}
use Rattle.std.specs.List.{list_all}
use Rattle.std.specs.Prelude.{IsTrue, ◌↔◌}
use Rattle.kr_config.specs.Kept.{rows_of}
use Rattle.kr_provider.specs.Names.{HasLinks, names_of}
use Rattle.kr_provider.proofs.Serving.{served, serves_entry}
use Rattle.kr_provider.proofs.links.Links.serve.Goals as goal

pub returns : goal.returns
returns g c =
    let P : Bool → Type 0 = λ b. IsTrue b
    ↔ HasLinks (names_of g.L.Kms.link c.args.self.now) (rows_of c.args.settings.now.entries.0) in
    let seen : c.as_slice.result.now ≡ c.args.self.now =
    c.as_slice.ensures.value ∙ c.self.view_is in
    subst P (sym (c.serve_entries.ensures
    ∙ (λ i. list_all (serves_entry g.L.Kms.link (seen i)) (c.as_slice-2.ensures i))))
    (served g.L.Kms.link c.args.self.now c.args.settings.now.entries.0)
