-- The law is the lemma.
use Rattle.kr_envelope.proofs.Sizes as proved
use Rattle.kr_envelope.proofs.laws.canonical_length.Goals as goal

pub returns : goal.returns
returns c = record { size = proved.canonical_size; few = proved.canonical_length }
