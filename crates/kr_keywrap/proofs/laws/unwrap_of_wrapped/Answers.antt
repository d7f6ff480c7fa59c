-- The law is the lemma.
use Rattle.kr_keywrap.proofs.Bodies.{unwrap_of_wrapped}
use Rattle.kr_keywrap.proofs.laws.unwrap_of_wrapped.Goals as goal

pub returns : goal.returns
returns c = unwrap_of_wrapped
