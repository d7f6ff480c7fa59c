use Rattle.std.proofs.Common.{◌≡◌, ◌+◌, ◌*◌, ◌-◌, ◌≤◌, ℕ, List, length, take, drop, refl, ap, ◌∙◌, arith}
use Rattle.std.proofs.lemmas.List.{take_rest}
use Rattle.std.specs.Fork.{slice_chunk}
use Rattle.kr_aes.specs.InverseCipher.{inverse_cipher}
use Rattle.kr_modes.specs.Blocks.{xor}
use Rattle.kr_modes.proofs.Chains.{length-written}
use Rattle.kr_modes.proofs.Opened.{opened_more}
use Rattle.kr_modes.proofs.cbc.decrypt_each.Goals as goal

pub loop-index-preserved : goal.loop-index-preserved
loop-index-preserved c =
    let l = c.loop-index in
    let decipher : List ℕ → List ℕ = inverse_cipher c.args.words.now c.args.rounds in
    let sealed : List ℕ = drop c.args.from l.buffer in
    let next : List ℕ = c.add.new.block in
    let k : 16 * l.index + 16 - 16 * l.index ≡ 16 = omega arith in
    let fits : c.args.from + 16 * l.index + 32 ≤ length l.buffer = omega (arith, l.invariant.same_length) in
    let long : length next ≡ 16 = c.add.array_long in
    let at : (i : ℕ) → slice_chunk (take (length l.buffer - c.args.from) sealed) 16 i ≡ slice_chunk sealed 16 i = λ i.
    ap (λ (zs : List ℕ). slice_chunk zs 16 i) (take_rest l.buffer c.args.from) in
    let plain : c.decrypt_block_by_inverse.new.block ≡ decipher (slice_chunk sealed 16 (l.index + 1)) =
    c.decrypt_block_by_inverse.ensures.inverse c.args.words.now c.invert.ensures
    ∙ ap decipher (c.whole_block-block.ensures ∙ at (l.index + 1)) in
    let block : next ≡ xor (decipher (slice_chunk sealed 16 (l.index + 1))) (slice_chunk sealed 16 l.index) =
    c.add.ensures ∙ (λ i. xor (plain i) ((c.whole_block.ensures ∙ at l.index) i)) in
    rw (k, c.copy_from_slice.ensures.after) record {
      same_length = length-written l.buffer next (16 * l.index) 16 (omega arith) long ∙ l.invariant.same_length;
      chained = opened_more decipher l.buffer next c.args.from l.index 16 fits refl long block ∙ l.invariant.chained;
    }
