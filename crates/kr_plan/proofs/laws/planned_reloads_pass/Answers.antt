use Rattle.kr_plan.proofs.Passing.{wide_passes, turned_passes, target_passes}
use Rattle.kr_plan.proofs.laws.planned_reloads_pass.Goals as goal

pub returns : goal.returns
returns c = record { wide = wide_passes; turned = turned_passes; target = target_passes }
