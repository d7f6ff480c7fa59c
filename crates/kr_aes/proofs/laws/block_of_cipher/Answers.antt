use Rattle.kr_aes.proofs.Blocks.{IsBlock-cipher}
use Rattle.kr_aes.proofs.laws.block_of_cipher.Goals as goal

pub returns : goal.returns
returns c = IsBlock-cipher
