-- A number's own text alone is read as it.
use Rattle.std.proofs.Common.{◌≡◌, ◌<◌, ◌^◌, true, sym, ◌∙◌, ap, subst, decimal}
use Rattle.std.specs.Str.{bytes_eq}
use Rattle.std.proofs.lemmas.Fmt.{parse-decimal}
use Rattle.std.proofs.lemmas.Slice.Eq.{bytes_eq-Decides}
use Rattle.kr_kms_wire.proofs.ReadBack.{number_back, no_number}
use Rattle.kr_kms_wire.proofs.members.text_number.Goals as goal

pub returns-in_default : goal.returns-in_default
returns-in_default c = sym (no_number c.args.text.now (λ n h e.
    c.in_default.not-Ok n
    (parse-decimal 64 n c.args.text.now c.parse.result h h e c.parse.ensures.value.0)))

pub returns-then-eq : goal.returns-then-eq
returns-then-eq c =
    let same = (bytes_eq-Decides c.format.result.now c.args.text.now).0
    (sym c.eq.ensures ∙ c.if-eq.true) in
    let parsed = c.in-Ok.ensures.value.0 in
    sym (number_back c.args.text.now c.in-Ok.number
    (subst (λ m. m < 2 ^ 64) (sym parsed.1) parsed.0.1) (sym c.format.ensures.text ∙ same))

pub returns-else-eq : goal.returns-else-eq
returns-else-eq c = sym (no_number c.args.text.now (λ n h e.
    let parsed = sym c.in-Ok.is
    ∙ parse-decimal 64 n c.args.text.now c.parse.result h h e c.parse.ensures.value.0 in
    let same : c.in-Ok.number ≡ n = cc in
    let equal : bytes_eq c.format.result.now c.args.text.now ≡ true =
    (bytes_eq-Decides c.format.result.now c.args.text.now).1
    (c.format.ensures.text ∙ ap decimal same ∙ sym e) in
    let other = sym c.eq.ensures ∙ c.if-eq.false in
    absurd (cc)))
