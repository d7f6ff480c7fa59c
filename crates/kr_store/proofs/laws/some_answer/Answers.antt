-- Answers of some_answer.
use Rattle.kr_store.proofs.Answered.{answered}
use Rattle.kr_store.proofs.laws.some_answer.Goals as goal

pub returns : goal.returns
returns c = answered
