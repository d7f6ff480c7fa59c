use Rattle.test_vectors.proofs.Written.{stands_for-word_of}
use Rattle.test_vectors.proofs.laws.word_of_bytes.Goals as goal

pub returns : goal.returns
returns c = stands_for-word_of
