use Rattle.kr_judge.proofs.IndexSteps.{dropped_none, dropped_own}
use Rattle.kr_judge.proofs.proposal.drop_path.Goals as goal

pub returns-in-None-clause-indexed : goal.returns-in-None-clause-indexed
returns-in-None-clause-indexed c = dropped_none c.args.places.now c.remove.new.self c.args.pairs.now c.args.path.now c.requires c.in-None.ensures.place c.in-None.ensures.removed c.in-None.ensures.sorted

pub returns-in-Some-clause-indexed : goal.returns-in-Some-clause-indexed
returns-in-Some-clause-indexed c = dropped_own c.args.places.now c.remove.new.self
    c.args.pairs.now c.take_path.new.self c.args.path.now c.in-Some.place c.requires
    c.in-Some.ensures.place c.in-Some.ensures.removed c.in-Some.ensures.sorted
    c.take_path.ensures.taken
