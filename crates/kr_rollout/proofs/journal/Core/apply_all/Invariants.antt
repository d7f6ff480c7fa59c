use Rattle.kr_rollout.specs.Cores.{CoreState, AllMay, AllApply}
use Rattle.kr_rollout.proofs.journal.Core.apply_all.Given as goal

abbrev pub invariant-loop-asked : goal.invariant-loop-asked
invariant-loop-asked g l = AllMay l.self l.asked-iterator.rest.items
    × ((last : CoreState) → AllApply l.self l.asked-iterator.rest.items last
    → AllApply l.fn.self l.fn.events.items last)
