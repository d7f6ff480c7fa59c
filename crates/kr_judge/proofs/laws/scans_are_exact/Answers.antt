use Rattle.kr_judge.proofs.Exact.{paths_are_needs, numbers_are_live}
use Rattle.kr_judge.proofs.laws.scans_are_exact.Goals as goal

pub returns-clause-paths : goal.returns-clause-paths
returns-clause-paths c = paths_are_needs

pub returns-clause-live : goal.returns-clause-live
returns-clause-live c = numbers_are_live
