use Rattle.std.proofs.Common.{slice_index, ap, ◌∙◌, arith}
use Rattle.kr_aes.specs.Cipher.{cell}
use Rattle.kr_aes.specs.InverseCipher.{inverse_sbox, inverse_sub_bytes}
use Rattle.kr_aes.proofs.Boxes.{state_of_cells, place_of_cell}
use Rattle.kr_aes.proofs.inverse_state.inverse_sub_bytes.Goals as goal

pub returns : goal.returns
unfolding inverse_sub_bytes
returns c =
    let old = c.args.block.now in
    let inv = c.loop-byte.invariant in
    state_of_cells c.loop-byte.block (λ row column. inverse_sbox (cell old row column)) inv.size
    (λ k lt. inv.done k (omega arith) ∙ ap (λ i. inverse_sbox (slice_index old i)) (place_of_cell k))
