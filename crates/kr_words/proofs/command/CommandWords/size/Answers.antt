-- What the tactic leaves open of `size`.
use Rattle.kr_words.proofs.Given.{size_given}
use Rattle.kr_words.proofs.command.CommandWords.size.Goals as goal

pub returns-clause-given : goal.returns-clause-given
returns-clause-given c = size_given _ c.number.ensures
