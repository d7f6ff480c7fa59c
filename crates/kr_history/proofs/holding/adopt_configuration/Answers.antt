-- `adopt_configuration`: settings that keep their rules have no more keys than pages.
use Rattle.std.proofs.Common.{arith, refl, subst}
use Rattle.kr_provider.specs.Publication.{Publication, IsPublished}
use Rattle.kr_provider.proofs.Lists.{few_keys}
use Rattle.kr_history.proofs.holding.adopt_configuration.Goals as goal

pub unreachable-requires : goal.unreachable-requires
unreachable-requires g c =
    let kept = subst (λ (p : Publication). IsPublished p) c.get.ensures c.known.ensures in
    let few = few_keys c.args.published.rows kept.kept in
    let full = c.in_default.ensures.full.0 refl in
    omega (arith, few, full, c.requires.pages)
