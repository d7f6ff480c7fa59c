use Rattle.kr_config.specs.Kept.{rows_of}
use Rattle.kr_plan.proofs.Steps.{IsLeft}
use Rattle.kr_plan.proofs.clash.find_first_clash.Given as goal

abbrev pub invariant-loop-class : goal.invariant-loop-class
invariant-loop-class l = IsLeft l.classes (rows_of l.from.entries.0) (rows_of l.to.entries.0)
    l.class-index
