-- What the tactic leaves open of `seed`.
use Rattle.kr_words.proofs.Given.{seed_given}
use Rattle.kr_words.proofs.command.CommandWords.seed.Goals as goal

pub returns-clause-given : goal.returns-clause-given
returns-clause-given c = seed_given _ c.number.ensures
