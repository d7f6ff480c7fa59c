-- How a command stops where there is no plan.
use Rattle.std.specs.Prelude.{◌≡◌, Some, ⊤}
use Rattle.kr_plan.specs.declared.refusal.PlanNo.{PlanNo}
use Rattle.kr_cmd_messages.specs.declared.refusal.Stop.{Stop}
use Rattle.kr_cmd_messages.specs.declared.refusal.Stop.TheVariants.{Refused, NoMemory}
use Rattle.kr_cmd_steps.specs.PlanLines.{plan_refusal}

-- by the refusal that is made of the reason; want of memory may take its place
abbrev pub IsStopBy : PlanNo → Stop → Type 0
IsStopBy cause (Refused why) = plan_refusal cause ≡ Some why
IsStopBy cause NoMemory = ⊤
IsStopBy cause stop = ⊥
