use Rattle.std.proofs.Common.{bit_xor, ◌∙◌, arith}
use Rattle.std.specs.Int.{w64, to_le_bytes}
use Rattle.kr_modes.proofs.BlockSums.{xor_of_halves}
use Rattle.kr_modes.proofs.blocks.half_sum.Goals as goal

pub returns : goal.returns
returns c =
    c.to_le_bytes.ensures
    ∙ (λ i. to_le_bytes w64 (bit_xor (c.from_le_bytes.ensures i) (c.from_le_bytes-2.ensures i)))
    ∙ xor_of_halves c.args.half c.args.other (omega arith) (omega arith) c.known.ensures c.known-2.ensures
