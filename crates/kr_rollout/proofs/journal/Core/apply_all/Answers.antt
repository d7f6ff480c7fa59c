use Rattle.std.proofs.Common.{◌≡◌, ◌∷◌, sym, subst}
use Rattle.kr_rollout.specs.Cores.{AllMay, AllApply}
use Rattle.kr_rollout.proofs.journal.Core.apply_all.Goals as goal

pub loop-asked-preserved : goal.loop-asked-preserved
loop-asked-preserved g c =
    let rest : c.loop-asked.asked-iterator.rest.items
    ≡ c.in-Some.asked ∷ c.next.new.self.rest.items = c.in-Some.ensures.steps.0 in
    let may = subst (λ events. AllMay c.loop-asked.self events) rest c.loop-asked.invariant.0 in (
      may.2 c.apply.result c.apply.new.self c.apply.ensures.applied,
      λ last made. c.loop-asked.invariant.1 last
          (subst (λ events. AllApply c.loop-asked.self events last) (sym rest)
          (c.apply.result, c.apply.new.self, c.apply.ensures.applied, made)),
    )
