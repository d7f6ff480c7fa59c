-- What the tactic leaves open of `planned`.
use Rattle.kr_words.proofs.Given.{planned_given}
use Rattle.kr_words.proofs.command.CommandWords.planned.Goals as goal

pub returns-clause-given : goal.returns-clause-given
returns-clause-given c = planned_given _ c.number.ensures
