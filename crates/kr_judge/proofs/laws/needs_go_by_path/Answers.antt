use Rattle.kr_judge.proofs.Needs.{set_at, drop_at_path}
use Rattle.kr_judge.proofs.laws.needs_go_by_path.Goals as goal

pub returns-clause-set : goal.returns-clause-set
returns-clause-set c = set_at

pub returns-clause-drop : goal.returns-clause-drop
returns-clause-drop c = drop_at_path
