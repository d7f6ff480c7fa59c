use Rattle.kr_aes.proofs.InverseRounds.{inverse_cipher-cipher}
use Rattle.kr_aes.proofs.laws.inverse_of_cipher.Goals as goal

pub returns : goal.returns
returns c = inverse_cipher-cipher
