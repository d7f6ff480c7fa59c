use Rattle.std.proofs.Common.{slice_index, ap, ◌∙◌, ◌+◌, ◌*◌, ◌/◌, ◌%◌, arith, bit_xor}
use Rattle.kr_aes.specs.Cipher.{cell, word_byte, add_round_key}
use Rattle.kr_aes.proofs.Boxes.{state_of_cells, place_of_cell}
use Rattle.kr_aes.proofs.state.add_round_key.Goals as goal

pub returns : goal.returns
unfolding add_round_key
returns c =
    let old = c.args.block.now in
    let words = c.args.words.now in
    let round = c.args.round in
    let inv = c.loop-i.invariant in
    state_of_cells c.loop-i.block (λ row column. bit_xor (cell old row column) (word_byte (slice_index words (4 * round + column)) row)) inv.size
    (λ k lt. inv.done k (omega arith) ∙ ap (λ i. bit_xor (slice_index old i) (word_byte (slice_index words (4 * round + k / 4)) (k % 4))) (place_of_cell k))
