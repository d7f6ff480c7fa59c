use Rattle.kr_plan_laws.proofs.Rounds as rounds
use Rattle.kr_plan_laws.proofs.laws.rounds_follow.Goals as goal

pub returns-clause-follow : goal.returns-clause-follow
returns-clause-follow c = rounds.rounds_follow

pub returns-clause-pass : goal.returns-clause-pass
returns-clause-pass c = rounds.rounds_pass
