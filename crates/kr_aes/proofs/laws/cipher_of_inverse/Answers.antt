use Rattle.kr_aes.proofs.CipherBack.{cipher-inverse_cipher}
use Rattle.kr_aes.proofs.laws.cipher_of_inverse.Goals as goal

pub returns : goal.returns
returns c = cipher-inverse_cipher
