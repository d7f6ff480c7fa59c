use Rattle.kr_aes.proofs.InverseBlocks.{IsBlock-inverse_cipher}
use Rattle.kr_aes.proofs.laws.block_of_inverse_cipher.Goals as goal

pub returns : goal.returns
returns c = IsBlock-inverse_cipher
