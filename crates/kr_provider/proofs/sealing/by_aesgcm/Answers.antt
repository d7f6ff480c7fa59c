-- `by_aesgcm`: what was written behind the prefix is the value.
use Rattle.std.proofs.Common.{◌≡◌, ℕ, List, Some, length, replicate, ap, sym, ◌∙◌, ◌-◌, ◌++◌}
use Rattle.kr_envelope.specs.declared.prefix.Kind.TheVariants as kind
use Rattle.kr_envelope.specs.Prefixes.{prefix}
use Rattle.kr_config.specs.declared.who.Who.TheVariants.{Identity, Aesgcm}
use Rattle.kr_provider.specs.Envelopes.{gcm_body}
use Rattle.kr_provider.proofs.Filled.{sealed_fits}
use Rattle.kr_provider.proofs.Framed.{value_written}
use Rattle.kr_provider.proofs.sealing.by_aesgcm.Goals as goal

other : {name secret : List ℕ} → Aesgcm name secret ≡ Identity → ⊥
other e = cc

pub returns-clause-sealed : goal.returns-clause-sealed
returns-clause-sealed g c = λ seeds.
    let first : List ℕ = prefix kind.Aesgcm c.args.name.now in
    let written = value_written c.in-Some-framed.value.items c.in-Some.front.items first
    c.args.plain 12 16 (c.len-start.result - 12)
    (c.in-Some-framed.ensures ∙ ap (λ l. l ++ (c.args.plain ++ replicate 16 0)) c.as_slice.ensures.value)
    c.in-Some.ensures (ap (λ n. n - 12) (c.len-start.ensures ∙ c.in-Some.front.ok.0))
    (λ own. gcm_body c.as_slice-2.result.now c.args.path.now own c.draw.new.into)
    c.from_vec.result c.write_gcm.new.value c.deref_mut.result.now _
    (length c.as_slice-size.result.now) c.from_vec.ensures c.write_gcm.auto.value
    c.deref_mut.ensures.value c.in-Some-framed.value.ok.0
    (sym (ap length c.as_slice-size.ensures)) c.write_gcm.ensures
    ∙ ap (λ key. first ++ gcm_body key c.args.path.now c.args.plain c.draw.new.into)
    c.as_slice-2.ensures in (
      c.draw.new.into,
      (c.draw.auto.into, c.in-Ok.ensures.drawn.0),
      sealed_fits seeds (Aesgcm c.args.name.now c.args.secret.now) c.args.path.now c.args.plain
          c.draw.new.into c.requires.fits ∙ sym (ap (λ value. Some value) written),
      c.in-Ok.ensures.drawn.1,
      λ e. absurd (other e),
      c.in-Ok.ensures.cause.once,
    )
