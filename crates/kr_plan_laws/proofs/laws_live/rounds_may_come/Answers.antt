use Rattle.kr_plan_laws.proofs.Rounding as rounding
use Rattle.kr_plan_laws.proofs.laws_live.rounds_may_come.Goals as goal

pub returns : goal.returns
returns c = record {
  wide = rounding.wide_may_come;
  turned = rounding.turned_may_come;
  target = rounding.target_may_come;
}
