use Rattle.kr_plan.proofs.ClassLists.{merges_each_class}
use Rattle.kr_plan.proofs.Merged.{merges_members}
use Rattle.kr_plan.proofs.laws.lists_are_merged.Goals as goal

pub returns-clause-each : goal.returns-clause-each
returns-clause-each c = merges_each_class

pub returns-clause-members : goal.returns-clause-members
returns-clause-members c = merges_members
