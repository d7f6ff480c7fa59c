-- `seal_in_place`: the path and the resource are lent.
use Rattle.std.proofs.Common.{List, ℕ, length, ◌≤◌, subst, sym}
use Rattle.std.specs.Prelude.{IfOk, IfSome}
use Rattle.kr_base.specs.Limits.{path_limit}
use Rattle.kr_provider.specs.Publication.{writer_at}
use Rattle.kr_provider.specs.Sealing.{IsSealing, Seals}
use Rattle.kr_history.proofs.sealing.seal_in_place.Goals as goal

pub seal_in_place-requires-clause-path : goal.seal_in_place-requires-clause-path
seal_in_place-requires-clause-path g c =
    subst (λ (p : List ℕ). length p ≤ path_limit) (sym c.as_str-2.ensures) c.requires.path

pub returns-clause-sealed : goal.returns-clause-sealed
returns-clause-sealed g c =
    let Sealed : List ℕ → List ℕ → Type 0 = λ resource path.
    IfSome c.args.bench.now.published (λ p. Seals g.D.Dice.left g.D.Dice.count p.seeds
    (writer_at p resource) path c.args.plain c.args.bench.now.dice
    c.seal_in_place.new.self.dice c.seal_in_place.result) in
    subst (λ p. Sealed c.args.resource.now p) c.as_str-2.ensures
    (subst (λ r. Sealed r c.as_str-2.result.now) c.as_str.ensures
    c.seal_in_place.ensures.sealed)

pub returns-clause-sealing : goal.returns-clause-sealing
returns-clause-sealing g c =
    let Sealed : List ℕ → List ℕ → Type 0 = λ resource path.
    IfSome c.args.bench.now.published (λ p. IfOk c.seal_in_place.result
    (λ value. IsSealing p resource path c.args.plain value)) in
    subst (λ p. Sealed c.args.resource.now p) c.as_str-2.ensures
    (subst (λ r. Sealed r c.as_str-2.result.now) c.as_str.ensures
    c.seal_in_place.ensures.sealing)
