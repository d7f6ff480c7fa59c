use Rattle.std.proofs.Common.{◌≡◌, ◌+◌, ◌*◌, ◌-◌, ◌≤◌, ℕ, List, [], get_or, length, drop, map, refl, ap, ◌∙◌, arith}
use Rattle.std.proofs.lemmas.List.{take_rest}
use Rattle.std.specs.Fork.{slice_chunk}
use Rattle.kr_aes.specs.Cipher.{cipher}
use Rattle.kr_aes.proofs.Blocks.{length-cipher}
use Rattle.kr_modes.specs.Blocks.{xor}
use Rattle.kr_modes.specs.Gcm.{counter_block}
use Rattle.kr_modes.proofs.Chains.{length-written}
use Rattle.kr_modes.proofs.Streams.{stream_at, streamed_more}
use Rattle.kr_modes.proofs.gctr.gctr_eight.Goals as goal

pub loop-i-preserved : goal.loop-i-preserved
loop-i-preserved c =
    let l = c.loop-i in
    let nonce : List ℕ = c.args.nonce.now in
    let index : ℕ = c.args.written + l.i in
    let unread : List ℕ = slice_chunk (drop c.args.from l.buffer) 16 index in
    let next : List ℕ = c.vector_sum.result in
    let k : 16 * index + 16 - 16 * index ≡ 16 = omega arith in
    let one : c.args.written + (l.i + 1) ≡ index + 1 = omega arith in
    let fits : c.args.from + 16 * index + 16 ≤ length l.buffer = omega (arith, l.invariant.same_length, c.requires.from) in
    let chunk : c.whole_block-block.result ≡ unread =
    c.whole_block-block.ensures ∙ ap (λ (zs : List ℕ). slice_chunk zs 16 index) (take_rest l.buffer c.args.from) in
    let long : length next ≡ 16 = omega arith in
    rw (k, one, c.copy_from_slice.ensures.after) record {
      same_length = length-written l.buffer next (16 * index) 16 (omega arith) long ∙ l.invariant.same_length;
      streamed = λ words bytes is before.
          let encipher : List ℕ → List ℕ = cipher words c.args.rounds in
          let stream : get_or c.encrypt_eight.new.blocks l.i [] ≡ encipher (counter_block nonce (index + 1)) =
          ap (λ (bs : List (List ℕ)). get_or bs l.i []) (c.encrypt_eight.ensures words is ∙ ap (map encipher) c.counter_blocks-stream.ensures)
          ∙ stream_at encipher nonce c.args.written l.i (omega arith) in
          let block : next ≡ xor unread (encipher (counter_block nonce (index + 1))) =
          c.vector_sum.ensures ∙ (λ n. xor (chunk n) (stream n)) in
          streamed_more encipher nonce bytes l.buffer next c.args.from index 16 (length-cipher words c.args.rounds) fits refl long block
          (l.invariant.streamed words bytes is before);
    }
