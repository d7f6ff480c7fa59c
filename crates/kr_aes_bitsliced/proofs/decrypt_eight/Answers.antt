use Rattle.std.proofs.Common.{rules}
use Rattle.kr_aes.specs.InverseCipher.{inverse_cipher}
use Rattle.kr_aes_bitsliced.proofs.EightBlocks.{through_planes}
use Rattle.kr_aes_bitsliced.proofs.decrypt_eight.Goals as goal

pub returns : goal.returns
returns c = λ words is.
    through_planes (inverse_cipher words c.args.rounds) c.args.blocks.now c.to_blocks.result
    c.of_blocks-sliced.result c.inverse_cipher-opened.result c.told-blocks (search rules)
    c.of_blocks-sliced.ensures (c.inverse_cipher-opened.ensures words is) c.to_blocks.ensures
