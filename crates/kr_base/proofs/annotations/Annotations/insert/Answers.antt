use Rattle.std.proofs.Common.{sym, ◌∙◌, subst, ap}
use Rattle.std.specs.Prelude.{slice_set}
use Rattle.std.specs.List.{insert}
use Rattle.kr_base.specs.Pairs.{IsSortedByKey, with_pair}
use Rattle.kr_base.proofs.SortedPairs.{sorted-with_pair}
use Rattle.kr_base.proofs.annotations.Annotations.insert.Goals as goal

pub invariant_of-self : goal.invariant_of-self
invariant_of-self c = subst IsSortedByKey
    (sym (ap (λ l. slice_set l c.in-Ok.at (c.args.key, c.args.value)) (sym c.deref.ensures.value) ∙ c.in-Ok.ensures.1 c.args.value ∙ ap (λ l. with_pair l c.args.key c.args.value) c.deref.ensures.value))
    (sorted-with_pair c.self.inside.pairs.items c.args.key c.args.value c.self.invariant)

pub invariant_of-self-in-Ok-insert : goal.invariant_of-self-in-Ok-insert
invariant_of-self-in-Ok-insert c = subst IsSortedByKey
    (sym (c.in-Ok-insert.ensures.items ∙ ap (λ l. insert l c.in-Err.at (c.args.key, c.args.value)) (sym c.deref.ensures.value) ∙ c.in-Err.ensures.1 c.args.value ∙ ap (λ l. with_pair l c.args.key c.args.value) c.deref.ensures.value))
    (sorted-with_pair c.self.inside.pairs.items c.args.key c.args.value c.self.invariant)
