-- Checks for reasons against a plan.
use Rattle.std.specs.Prelude.{◌≡◌, List, [], Some, Result, Ok, Err, ⊤}
use Rattle.kr_judge.specs.Verdicts.{first}
use Rattle.kr_plan.specs.declared.refusal.PlanNo.{PlanNo}
use Rattle.kr_plan.specs.declared.refusal.PlanNo.TheVariants.{SecretClash, TooMany, NoMemory}

-- there is no reason, or the first is told; want of memory may take its place
abbrev pub Checks : {T : Type 0} → List PlanNo → Result T PlanNo → Type 0
Checks reasons (Ok done) = reasons ≡ []
Checks reasons (Err (SecretClash class who)) = first reasons ≡ Some (SecretClash class who)
Checks reasons (Err (TooMany counted number)) = first reasons ≡ Some (TooMany counted number)
Checks reasons (Err NoMemory) = ⊤
