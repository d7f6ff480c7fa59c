-- `by_aesgcm`: a body without a whole nonce is too short.
use Rattle.std.proofs.Common.{◌≡◌, ◌+◌, ◌-◌, length, take, drop, ap, subst, sym, ◌∙◌, arith, length-drop}
use Rattle.kr_provider.specs.inner.Sources.{Gives}
use Rattle.kr_provider.proofs.Bodies.{body_parts, short_body}
use Rattle.kr_provider.proofs.unsealing.by_aesgcm.Goals as goal

pub returns-then-bytes-from-lt-NONCE : goal.returns-then-bytes-from-lt-NONCE
returns-then-bytes-from-lt-NONCE c =
    short_body c.args.secret.now c.args.path.now (drop c.args.from c.args.value)
    (omega (
      arith,
      length-drop c.args.from c.args.value,
      ap length c.as_slice-bytes.ensures,
      c.if-bytes-from-lt-NONCE.true,
    )) ∙ c.mode_refusal.ensures

pub returns : goal.returns
returns c =
    let size : c.args.from + 12 - c.args.from ≡ 12 = omega arith in
    subst (λ r. Gives r c.by_gcm.result) (sym (body_parts c.args.secret.now c.args.path.now
    c.args.value c.copy_from_slice.new.self c.args.from (c.args.from + 12 - c.args.from) size
    (c.copy_from_slice.ensures.after ∙ ap (λ zs. take (c.args.from + 12 - c.args.from)
    (drop c.args.from zs)) c.as_slice-bytes.ensures))) c.by_gcm.ensures
