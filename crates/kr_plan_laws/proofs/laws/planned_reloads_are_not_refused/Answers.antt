use Rattle.kr_plan_laws.proofs.Boards.{wide_is_not_refused, turned_is_not_refused, target_is_not_refused}
use Rattle.kr_plan_laws.proofs.laws.planned_reloads_are_not_refused.Goals as goal

pub returns : goal.returns
returns c = record {
  wide = wide_is_not_refused;
  turned = turned_is_not_refused;
  target = target_is_not_refused;
}
