use Rattle.kr_aes_bitsliced.proofs.ByteBits.{each_of_eight}
use Rattle.kr_aes_bitsliced.proofs.planes.rows_to_blocks.Goals as goal

pub returns : goal.returns
returns c = each_of_eight _
    c.rows_to_block.ensures c.rows_to_block-2.ensures c.rows_to_block-3.ensures c.rows_to_block-4.ensures
    c.rows_to_block-5.ensures c.rows_to_block-6.ensures c.rows_to_block-7.ensures c.rows_to_block-8.ensures
