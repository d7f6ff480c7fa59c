use Rattle.std.proofs.Common.{rules, sym, ◌∙◌}
use Rattle.kr_aes_bitsliced.specs.inner.Planes.{plane}
use Rattle.kr_aes_bitsliced.proofs.PlaneSums.{plane_of}
use Rattle.kr_aes_bitsliced.proofs.TransposedBlocks.{sliced_block_of_rows}
use Rattle.kr_aes_bitsliced.proofs.planes.to_blocks.Goals as goal

pub returns : goal.returns
returns c b lt =
    c.rows_to_blocks.ensures b lt
    ∙ sym (sliced_block_of_rows c.args.planes b (plane c.transposed.result b)
    (plane_of c.transposed.result (search rules) b lt)
    (λ p k hp hk. c.transposed.ensures p b k hp lt hk))
