-- `by_seed`: what was written between the neighbours of the data is the value.
use Rattle.std.proofs.Common.{◌≡◌, ℕ, List, ◌+◌, ◌++◌, ◌∷◌, ◌∙◌, ap, arith, length, take, drop}
use Rattle.kr_config.specs.declared.who.Who.TheVariants.{Identity, Kms}
use Rattle.kr_envelope.specs.declared.object.SourceKind.TheVariants.{Seed}
use Rattle.kr_envelope.specs.declared.prefix.Kind.TheVariants as kind
use Rattle.kr_envelope.specs.Canonical.{fields_behind, shortest}
use Rattle.kr_envelope.specs.Prefixes.{prefix}
use Rattle.kr_provider.specs.Envelopes.{seed_body}
use Rattle.kr_provider.proofs.Filled.{all_new}
use Rattle.kr_provider.proofs.Framed.{between_parts}
use Rattle.kr_provider.proofs.SeedValues.{sealed_by_row, value_between}
use Rattle.kr_provider.proofs.seed_sealing.by_seed.Goals as goal

other : {name : List ℕ} → Kms name ≡ Identity → ⊥
other e = cc

pub returns-clause-sealed : goal.returns-clause-sealed
returns-clause-sealed g c = λ seeds is_row.
    let row = c.args.row.now in
    let plain : List ℕ = c.args.plain in
    let size : ℕ = length c.as_slice-size.result.now in
    let long : size ≡ length plain = ap length c.as_slice-size.ensures in
    let items : List ℕ = c.in-Some.value.items in
    let front : List ℕ = prefix kind.Kms c.args.name.now ++ 10 ∷ shortest (44 + length plain + 16) in
    let behind : List ℕ = fields_behind row.key_id row.source row.annotations Seed in
    let parts = between_parts items front plain behind c.in-Some.start size c.in-Some.ensures.0 long
    c.in-Some.ensures.1 in
    let whole = all_new c.from_vec.result c.fill.new.value c.deref_mut.result.now items _
    c.from_vec.ensures c.fill.auto.value c.deref_mut.ensures.value c.in-Some.value.ok.0
    ∙ c.fill.ensures
    ∙ (λ i. written_by c.as_slice.result.now c.args.path.now c.draw.new.into c.in-Some.start size
    (c.deref_mut.ensures.value i))
    ∙ (λ i. parts.0 i ++ (seed_body (c.as_slice.ensures i) c.args.path.now (parts.1 i)
    c.draw.new.into ++ parts.2 i))
    ∙ value_between c.args.name.now c.args.path.now plain c.draw.new.into row (44 + length plain + 16)
    c.draw.auto.into (omega arith) in (
      c.draw.new.into,
      (c.draw.auto.into, c.in-Ok.ensures.drawn.0),
      sealed_by_row seeds c.args.name.now c.args.path.now plain c.draw.new.into
          c.from_vec.result row c.requires.fits is_row whole,
      c.in-Ok.ensures.drawn.1,
      λ e. absurd (other e),
      c.in-Ok.ensures.cause.once,
    )
  where
    written_by : (seed path drawn : List ℕ) (start size : ℕ) (value : List ℕ) → List ℕ
    written_by seed path drawn start size value = take start value
        ++ (seed_body seed path (take size (drop 44 (drop start value))) drawn
        ++ drop (44 + size + 16) (drop start value))
