use Rattle.std.proofs.Common.{slice_index, ap, ◌∙◌, arith}
use Rattle.kr_aes.specs.Cipher.{cell, sbox, sub_bytes}
use Rattle.kr_aes.proofs.Boxes.{state_of_cells, place_of_cell}
use Rattle.kr_aes.proofs.state.sub_bytes.Goals as goal

pub returns : goal.returns
unfolding sub_bytes
returns c =
    let old = c.args.block.now in
    let inv = c.loop-byte.invariant in
    state_of_cells c.loop-byte.block (λ row column. sbox (cell old row column)) inv.size
    (λ k lt. inv.done k (omega arith) ∙ ap (λ i. sbox (slice_index old i)) (place_of_cell k))
