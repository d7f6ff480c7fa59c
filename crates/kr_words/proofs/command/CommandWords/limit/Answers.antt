-- What the tactic leaves open of `limit`.
use Rattle.kr_words.proofs.Given.{limit_given}
use Rattle.kr_words.proofs.command.CommandWords.limit.Goals as goal

pub returns-clause-given : goal.returns-clause-given
returns-clause-given c = limit_given _ c.number.ensures
