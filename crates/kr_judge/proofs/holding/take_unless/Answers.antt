use Rattle.kr_judge.proofs.Lives.{taken_out}
use Rattle.kr_judge.proofs.holding.take_unless.Goals as goal

pub returns-clause-taken : goal.returns-clause-taken
returns-clause-taken c = taken_out c.args.still c.args.number c.args.live.now.items c.take_number.new.live.items c.if-still.false c.take_number.ensures.taken
