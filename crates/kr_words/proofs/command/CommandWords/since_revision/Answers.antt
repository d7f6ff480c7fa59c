-- What the tactic leaves open of `since_revision`.
use Rattle.kr_words.proofs.Given.{since_given}
use Rattle.kr_words.proofs.command.CommandWords.since_revision.Goals as goal

pub returns-clause-given : goal.returns-clause-given
returns-clause-given c = since_given _ c.number.ensures
