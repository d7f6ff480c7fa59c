-- What the tactic leaves open of `one_meaning`.
use Rattle.kr_words.proofs.Meanings.{mean_one}
use Rattle.kr_words.proofs.read.one_meaning.Goals as goal

pub returns : goal.returns
returns c = mean_one
