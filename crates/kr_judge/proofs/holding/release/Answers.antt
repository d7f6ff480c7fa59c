use Rattle.kr_judge.specs.inner.Views.{generations_of}
use Rattle.kr_judge.proofs.Lives.{released_live}
use Rattle.kr_judge.proofs.holding.release.Goals as goal

pub returns-clause-live : goal.returns-clause-live
returns-clause-live c = released_live (generations_of c.args.generations.now.items) (generations_of c.drop_holder-still.new.generations.items) c.args.live.now.items c.take_unless.new.live.items c.args.number
    c.drop_holder-still.result c.requires.held c.drop_holder-still.ensures.still c.requires.live c.take_unless.ensures.taken c.drop_holder-still.ensures.dropped
