-- `Links::has`: the test finds a name that is there.
use Rattle.std.proofs.Common.{Bool, sym, ◌∙◌, ap, subst}
use Rattle.std.specs.List.{list_any}
use Rattle.std.specs.Str.{bytes_eq}
use Rattle.std.specs.Prelude.{IsTrue, ◌↔◌, Contains}
use Rattle.kr_provider.specs.Names.{names_of}
use Rattle.kr_provider.proofs.LinkNames.{named}
use Rattle.kr_provider.proofs.links.Links.has.Goals as goal

pub returns-clause-named : goal.returns-clause-named
returns-clause-named g c = let P : Bool → Type 0 = λ b. IsTrue b
    ↔ Contains (names_of g.L.Kms.link c.args.self.now) c.args.name.now in
    subst P (sym (c.any_named.ensures ∙ ap (list_any
    (λ (link : g.row.L.Denot). bytes_eq (g.L.Kms.link link).name c.args.name.now))
    (c.as_slice.ensures.value ∙ c.self.view_is))) (named g.L.Kms.link c.args.self.now c.args.name.now)
