-- `by_aescbc`: what was written behind the prefix is the value.
use Rattle.std.proofs.Common.{◌≡◌, ℕ, List, Some, length, replicate, ap, sym, ◌∙◌, ◌-◌, ◌++◌}
use Rattle.kr_modes.specs.Cbc.{cbc}
use Rattle.kr_modes.specs.Padding.{pad}
use Rattle.kr_envelope.specs.declared.prefix.Kind.TheVariants as kind
use Rattle.kr_envelope.specs.Prefixes.{prefix}
use Rattle.kr_config.specs.declared.who.Who.TheVariants.{Identity, Aescbc}
use Rattle.kr_provider.specs.Ciphers.{cipher_under}
use Rattle.kr_provider.proofs.Filled.{sealed_fits}
use Rattle.kr_provider.proofs.Framed.{value_written}
use Rattle.kr_provider.proofs.sealing.by_aescbc.Goals as goal

other : {name secret : List ℕ} → Aescbc name secret ≡ Identity → ⊥
other e = cc

pub returns-clause-sealed : goal.returns-clause-sealed
returns-clause-sealed g c = λ seeds path.
    let size : ℕ = length c.as_slice-size.result.now in
    let k : ℕ = c.cbc_length.result - size in
    let body : List ℕ → List ℕ =
    λ own. c.draw.new.into ++ cbc (cipher_under c.args.secret.now) c.draw.new.into (pad own) in
    let written = value_written c.in-Some-framed.value.items c.in-Some.front.items
    (prefix kind.Aescbc c.args.name.now) c.args.plain 16 k (c.len-start.result - 16)
    (c.in-Some-framed.ensures ∙ ap (λ l. l ++ (c.args.plain ++ replicate k 0)) c.as_slice.ensures.value)
    c.in-Some.ensures (ap (λ n. n - 16) (c.len-start.ensures ∙ c.in-Some.front.ok.0)) body
    c.from_vec.result c.write_cbc.new.value c.deref_mut.result.now _ size c.from_vec.ensures
    c.write_cbc.auto.value c.deref_mut.ensures.value c.in-Some-framed.value.ok.0
    (sym (ap length c.as_slice-size.ensures)) c.write_cbc.ensures in (
      c.draw.new.into,
      (c.draw.auto.into, c.in-Ok.ensures.drawn.0),
      sealed_fits seeds (Aescbc c.args.name.now c.args.secret.now) path c.args.plain
          c.draw.new.into c.requires.fits ∙ sym (ap (λ value. Some value) written),
      c.in-Ok.ensures.drawn.1,
      λ e. absurd (other e),
      c.in-Ok.ensures.cause.once,
    )
