-- `unseal`: the row's parts are lent.
use Rattle.std.proofs.Common.{List, ℕ, length, ◌≤◌, subst, sym}
use Rattle.std.specs.Prelude.{IfSome}
use Rattle.kr_base.specs.Limits.{path_limit, value_limit}
use Rattle.kr_base.specs.Walks.{Talk}
use Rattle.kr_provider.specs.AskedLinks.{Among}
use Rattle.kr_provider.specs.Exchanges.{ReadsBy}
use Rattle.kr_provider.specs.Publication.{list_at}
use Rattle.kr_provider.specs.Unsealing.{UnsealsBy}
use Rattle.kr_history.proofs.AskedReaders.{unsealed_all}
use Rattle.kr_history.proofs.sealing.unseal.Goals as goal

pub unseal-requires-clause-path : goal.unseal-requires-clause-path
unseal-requires-clause-path g c =
    subst (λ (p : List ℕ). length p ≤ path_limit) (sym c.as_str-2.ensures) c.requires.path

pub unseal-requires-clause-fits : goal.unseal-requires-clause-fits
unseal-requires-clause-fits g c =
    subst (λ (p : List ℕ). length p ≤ value_limit) (sym c.as_slice.ensures) c.requires.fits

pub returns-clause-opened : goal.returns-clause-opened
returns-clause-opened g c =
    let Reads : List ℕ → List ℕ → List ℕ → Type 0 = λ resource path stored.
    IfSome c.args.bench.now.published (λ p. UnsealsBy g.L.Kms.link p.seeds
    (list_at p resource) path stored c.args.bench.now.links c.unseal.result
    c.unseal.new.self.links) in
    subst (λ s. Reads c.args.row.now.resource c.args.row.now.path s) c.as_slice.ensures
    (subst (λ p. Reads c.args.row.now.resource p c.as_slice.result.now) c.as_str-2.ensures
    (subst (λ r. Reads r c.as_str-2.result.now c.as_slice.result.now) c.as_str.ensures
    c.unseal.ensures.opened))

pub returns-clause-asked : goal.returns-clause-asked
returns-clause-asked g c = unsealed_all g.L.Kms.link c.as_str.result.now
    c.as_str-2.result.now c.as_slice.result.now c.args.bench.now.links c.unseal.new.self.links
    c.args.bench.now.published c.unseal.result c.requires.adopted c.unseal.ensures.opened

pub returns-clause-exchanged : goal.returns-clause-exchanged
returns-clause-exchanged g c =
    let Reads : List ℕ → List ℕ → List ℕ → Type 0 = λ resource path stored.
    IfSome c.args.bench.now.published (λ p. Talk (Among g.L.Kms.step) c.args.bench.now.links
    c.unseal.new.self.links (ReadsBy p.seeds (list_at p resource) path stored
    c.args.bench.now.cache c.unseal.result c.unseal.new.self.cache)) in
    subst (λ s. Reads c.args.row.now.resource c.args.row.now.path s) c.as_slice.ensures
    (subst (λ p. Reads c.args.row.now.resource p c.as_slice.result.now) c.as_str-2.ensures
    (subst (λ r. Reads r c.as_str-2.result.now c.as_slice.result.now) c.as_str.ensures
    c.unseal.ensures.exchanged))
