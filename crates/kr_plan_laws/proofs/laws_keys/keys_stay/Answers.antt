use Rattle.kr_plan_laws.proofs.Keyed as keyed
use Rattle.kr_plan_laws.proofs.laws_keys.keys_stay.Goals as goal

pub returns : goal.returns
returns c = keyed.keys_stay
