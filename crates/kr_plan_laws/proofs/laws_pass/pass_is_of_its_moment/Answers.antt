use Rattle.kr_plan_laws.proofs.Passes as passes
use Rattle.kr_plan_laws.proofs.laws_pass.pass_is_of_its_moment.Goals as goal

pub returns : goal.returns
returns c = passes.pass_is_of_its_moment
