-- The law is the lemma.
use Rattle.kr_keywrap.proofs.Bodies.{wrap_of_unwrapped}
use Rattle.kr_keywrap.proofs.laws.wrap_of_unwrapped.Goals as goal

pub returns : goal.returns
returns c = wrap_of_unwrapped
