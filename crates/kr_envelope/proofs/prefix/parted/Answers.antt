-- Behind the head the first colon ends the name.
use Rattle.std.proofs.Common.{None, Some, refl, ap, sym, ◌∙◌, ◌++◌}
use Rattle.std.proofs.Common.{subst}
use Rattle.std.proofs.lemmas.Bool.Decides.{Decides-eqb}
use Rattle.std.proofs.lemmas.Slice.Eq.{strip_prefix_is}
use Rattle.kr_base.specs.Rules.{IsName}
use Rattle.kr_envelope.proofs.Prefixing.{without_head, without_colon, without_name, with_name, text_of_name}
use Rattle.kr_envelope.proofs.prefix.parted.Goals as goal

pub returns-in_default : goal.returns-in_default
returns-in_default c = without_head c.args.kind c.args.bytes.now
    (λ rest e. strip_prefix_is Decides-eqb c.args.bytes.now c.head.result.now None c.in_default.ensures.cases rest (e ∙ ap (λ h. h ++ rest) (sym c.head.ensures)))

pub returns-in_default-first_colon : goal.returns-in_default-first_colon
returns-in_default-first_colon c = without_colon c.args.kind c.args.bytes.now c.in-Some.rest.now
    (strip_prefix_is Decides-eqb c.args.bytes.now c.head.result.now (Some c.in-Some.rest) c.in-Some.ensures.cases ∙ ap (λ h. h ++ c.in-Some.rest.now) c.head.ensures)
    (sym c.in_default-first_colon.ensures)

pub returns-in_default-from_utf8 : goal.returns-in_default-from_utf8
returns-in_default-from_utf8 c = without_name c.args.kind c.args.bytes.now c.in-Some.rest.now c.in-Some-first_colon.at
    (strip_prefix_is Decides-eqb c.args.bytes.now c.head.result.now (Some c.in-Some.rest) c.in-Some.ensures.cases ∙ ap (λ h. h ++ c.in-Some.rest.now) c.head.ensures)
    (sym c.in-Some-first_colon.ensures) (λ n. c.in_default-from_utf8.ensures.cases.0 (text_of_name _ n))

pub returns-then-not-name_ok : goal.returns-then-not-name_ok
returns-then-not-name_ok c = without_name c.args.kind c.args.bytes.now c.in-Some.rest.now c.in-Some-first_colon.at
    (strip_prefix_is Decides-eqb c.args.bytes.now c.head.result.now (Some c.in-Some.rest) c.in-Some.ensures.cases ∙ ap (λ h. h ++ c.in-Some.rest.now) c.head.ensures)
    (sym c.in-Some-first_colon.ensures)
    (λ n. let named : IsName c.in-Ok.name.now = subst IsName (sym c.in-Ok.ensures.cases.0) n in let t = c.if-not-name_ok.ensures.rule.1 named in cc)

pub returns : goal.returns
returns c = (
  c.if-not-name_ok.ensures.rule.0 refl,
  with_name c.args.kind c.args.bytes.now c.in-Some.rest.now c.in-Ok.name.now c.in-Some-first_colon.at
      (strip_prefix_is Decides-eqb c.args.bytes.now c.head.result.now (Some c.in-Some.rest) c.in-Some.ensures.cases ∙ ap (λ h. h ++ c.in-Some.rest.now) c.head.ensures)
      (sym c.in-Some-first_colon.ensures) c.in-Ok.ensures.cases.0,
)
