-- `seal`: the parts are lent.
use Rattle.std.proofs.Common.{List, ℕ, length, ◌≤◌, subst, sym}
use Rattle.std.specs.Prelude.{IfOk, IfSome}
use Rattle.kr_base.specs.Limits.{path_limit}
use Rattle.kr_provider.specs.Publication.{writer_at}
use Rattle.kr_provider.specs.Sealing.{IsSealing, Seals}
use Rattle.kr_history.proofs.sealing.seal.Goals as goal

pub seal-requires-clause-path : goal.seal-requires-clause-path
seal-requires-clause-path g c =
    subst (λ (p : List ℕ). length p ≤ path_limit) (sym c.as_str-2.ensures) c.requires.path

pub returns-clause-sealed : goal.returns-clause-sealed
returns-clause-sealed g c =
    let Sealed : List ℕ → List ℕ → List ℕ → Type 0 = λ resource path plain.
    IfSome c.args.bench.now.published (λ p. Seals g.D.Dice.left g.D.Dice.count p.seeds
    (writer_at p resource) path plain c.args.bench.now.dice c.seal.new.self.dice
    c.seal.result) in
    subst (λ s. Sealed c.args.resource.now c.args.path.now s) c.as_slice.ensures
    (subst (λ p. Sealed c.args.resource.now p c.as_slice.result.now) c.as_str-2.ensures
    (subst (λ r. Sealed r c.as_str-2.result.now c.as_slice.result.now) c.as_str.ensures
    c.seal.ensures.sealed))

pub returns-clause-sealing : goal.returns-clause-sealing
returns-clause-sealing g c =
    let Sealed : List ℕ → List ℕ → List ℕ → Type 0 = λ resource path plain.
    IfSome c.args.bench.now.published (λ p. IfOk c.seal.result
    (λ value. IsSealing p resource path plain value)) in
    subst (λ s. Sealed c.args.resource.now c.args.path.now s) c.as_slice.ensures
    (subst (λ p. Sealed c.args.resource.now p c.as_slice.result.now) c.as_str-2.ensures
    (subst (λ r. Sealed r c.as_str-2.result.now c.as_slice.result.now) c.as_str.ensures
    c.seal.ensures.sealing))
