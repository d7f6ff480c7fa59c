-- `bare`: data that have no mark stay as they are.
use Rattle.std.proofs.Common.{eqb, take, true, false, refl, sym, ap, ◌∙◌}
use Rattle.std.specs.Cmp.Lexicographic.{pointwise}
use Rattle.kr_envelope.specs.Prefixes.{mark}
use Rattle.kr_provider.proofs.Marked.{marked}
use Rattle.kr_provider.proofs.sealing.bare.Goals as goal

pub returns-then-starts_with : goal.returns-then-starts_with
returns-then-starts_with c = sym (marked true c.args.plain (c.if-starts_with.ensures.value
    ∙ ap (λ l. pointwise eqb mark (take 8 l)) c.as_slice.ensures))

pub returns : goal.returns
returns c = (
  sym (marked false c.args.plain (c.if-starts_with.ensures.value
      ∙ ap (λ l. pointwise eqb mark (take 8 l)) c.as_slice.ensures)),
  refl,
)
