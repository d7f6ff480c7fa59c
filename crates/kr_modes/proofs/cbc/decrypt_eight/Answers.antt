use Rattle.std.proofs.Common.{◌≡◌, ◌+◌, ◌*◌, ◌-◌, ◌≤◌, ℕ, List, [], get_or, length, drop, map, refl, ap, ◌∙◌, arith}
use Rattle.std.proofs.lemmas.List.{take_rest}
use Rattle.std.specs.Fork.{slice_chunk}
use Rattle.std.specs.List.{range_with_len}
use Rattle.kr_aes.specs.InverseCipher.{inverse_cipher}
use Rattle.kr_modes.specs.Blocks.{xor}
use Rattle.kr_modes.proofs.Chains.{length-written, unread_more}
use Rattle.kr_modes.proofs.Opened.{deciphered_at, opened_more}
use Rattle.kr_modes.proofs.cbc.decrypt_eight.Goals as goal

pub loop-i-preserved : goal.loop-i-preserved
loop-i-preserved c =
    let l = c.loop-i in
    let old : List ℕ = c.args.buffer.now in
    let index : ℕ = c.args.opened + l.i in
    let sealed : List ℕ = drop c.args.from l.buffer in
    let next : List ℕ = c.vector_sum.result in
    let k : 16 * index + 16 - 16 * index ≡ 16 = omega arith in
    let fits : c.args.from + 16 * index + 32 ≤ length l.buffer =
    omega (arith, l.invariant.same_length, c.requires.from) in
    let long : length next ≡ 16 = omega arith in
    let one : c.args.opened + (l.i + 1) ≡ index + 1 = omega arith in
    let before : c.whole_block-before.result ≡ slice_chunk sealed 16 index =
    c.whole_block-before.ensures ∙ ap (λ (zs : List ℕ). slice_chunk zs 16 index) (take_rest l.buffer c.args.from) in
    let eight : c.eight_blocks-deciphered.result
    ≡ map (slice_chunk (drop c.args.from old) 16) (range_with_len (c.args.opened + 1) 8) =
    c.eight_blocks-deciphered.ensures
    ∙ ap (λ (zs : List ℕ). map (slice_chunk zs 16) (range_with_len (c.args.opened + 1) 8))
    (take_rest old c.args.from) in
    rw (k, one, c.copy_from_slice.ensures.after) record {
      same_length = length-written l.buffer next (16 * index) 16 (omega arith) long ∙ l.invariant.same_length;
      unread = unread_more l.buffer old next index 16 (omega arith) refl long l.invariant.unread;
      chained = λ words is.
          let decipher : List ℕ → List ℕ = inverse_cipher words c.args.rounds in
          let plain =
          ap (λ (bs : List (List ℕ)). get_or bs l.i []) (c.decrypt_eight.ensures words is ∙ ap (map decipher) eight)
          ∙ deciphered_at decipher l.buffer old c.args.from c.args.opened l.i (omega arith) l.invariant.unread in
          let block : next ≡ xor (decipher (slice_chunk sealed 16 (index + 1))) (slice_chunk sealed 16 index) =
          c.vector_sum.ensures ∙ (λ n. xor (plain n) (before n)) in
          opened_more decipher l.buffer next c.args.from index 16 fits refl long block ∙ l.invariant.chained words is;
    }
