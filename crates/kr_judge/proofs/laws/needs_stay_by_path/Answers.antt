use Rattle.kr_judge.proofs.Needs.{stay_sorted}
use Rattle.kr_judge.proofs.laws.needs_stay_by_path.Goals as goal

pub returns : goal.returns
returns c = stay_sorted
