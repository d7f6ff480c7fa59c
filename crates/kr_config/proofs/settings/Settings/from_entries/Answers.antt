-- What the tactic leaves open of `of`.
use Rattle.std.proofs.Common.{◌++◌, [], ◌∷◌, sym, ap, subst, ◌∙◌}
use Rattle.kr_config.specs.declared.who.Who.TheVariants.{Identity}
use Rattle.kr_config.specs.Kept.{rows_of}
use Rattle.kr_config.specs.inner.ClassIndexes.{IsIndexOf}
use Rattle.kr_config.proofs.ClassChecks.{are_classes, are_listed}
use Rattle.kr_config.proofs.settings.Settings.from_entries.Goals as goal

pub invariant_of-result : goal.invariant_of-result
invariant_of-result c =
    let rows = rows_of c.args.entries.0 in
    let index = c.from_vec-index.result.0 in
    let indexed : IsIndexOf rows index =
    subst (IsIndexOf rows) (sym c.from_vec-index.ensures)
    (subst (λ es. IsIndexOf (rows_of es) c.in_ok-make_class_index.field-0.items) c.as_slice.ensures
    c.in_ok-make_class_index.ensures) in
    record {
      kept = c.requires;
      alone = c.in-Ok.ensures.ok ∙ ap (λ l. l ++ Identity ∷ []) c.new-fallback.ensures;
      told_apart = are_classes rows index indexed;
      listed = are_listed rows index indexed;
    }
