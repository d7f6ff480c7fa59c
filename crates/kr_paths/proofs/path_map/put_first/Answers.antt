use Rattle.std.proofs.Common.{[], ◌∷◌, ◌++◌, sym, subst, ap, arith, ◌∙◌}
use Rattle.kr_paths.specs.inner.Parts.{AreParts}
use Rattle.kr_paths.proofs.Orders.{sorted_nil, sorted_one}
use Rattle.kr_paths.proofs.path_map.put_first.Goals as goal

pub returns-in_err-part-clause-parts : goal.returns-in_err-part-clause-parts
returns-in_err-part-clause-parts c = subst AreParts (sym c.requires) (tt, sorted_nil)

pub returns-in_err-push-clause-parts : goal.returns-in_err-push-clause-parts
returns-in_err-push-clause-parts c = subst AreParts (sym (c.in_err-push.ensures.items ∙ c.requires)) (tt, sorted_nil)

pub returns-clause-parts : goal.returns-clause-parts
returns-clause-parts c = subst AreParts (sym (c.in_ok-push.ensures.items ∙ ap (λ l. l ++ c.in_ok-part.part ∷ []) c.requires ∙ ap (λ p. p ∷ []) c.in_ok-part.ensures))
    ((omega arith, tt), sorted_one c.args.path c.args.number)
