use Rattle.std.proofs.Common.{◌≡◌, ◌+◌, ◌*◌, ◌/◌, ◌%◌, ◌≤◌, ◌-◌, ℕ, List, length, drop, take, [], ◌∷◌, ◌++◌, refl, sym, ap, ◌∙◌, arith}
use Rattle.std.proofs.lemmas.List.{take_rest}
use Rattle.std.specs.Fork.{slice_chunk}
use Rattle.kr_aes.specs.Cipher.{cipher}
use Rattle.kr_aes.proofs.Blocks.{length-cipher}
use Rattle.kr_modes.specs.Blocks.{xor}
use Rattle.kr_modes.specs.Gcm.{counter_block}
use Rattle.kr_modes.proofs.Chains.{length-written}
use Rattle.kr_modes.proofs.Counters.{front_and_last}
use Rattle.kr_modes.proofs.Paddings.{filled}
use Rattle.kr_modes.proofs.Streams.{streamed_all, streamed_end, streamed_more}
use Rattle.kr_modes.proofs.Xors.{xor-comm}
use Rattle.kr_modes.proofs.gctr.gctr_each.Goals as goal

pub loop-index-preserved : goal.loop-index-preserved
loop-index-preserved c =
    let l = c.loop-index in
    let encipher : List ℕ → List ℕ = cipher c.args.words.now c.args.rounds in
    let nonce : List ℕ = c.args.nonce.now in
    let unread : List ℕ = slice_chunk (drop c.args.from l.buffer) 16 l.index in
    let next : List ℕ = c.add.new.block in
    let k : 16 * l.index + 16 - 16 * l.index ≡ 16 = omega arith in
    let fits : c.args.from + 16 * l.index + 16 ≤ length l.buffer = omega (arith, l.invariant.same_length) in
    let long : length next ≡ 16 = c.add.array_long in
    let begun = c.begin_nth_block-begun.ensures in
    let stream : c.encrypt_block-block.result ≡ encipher (counter_block nonce (l.index + 1)) =
    c.encrypt_block-block.ensures
    ∙ (λ i. cipher (begun i).words c.args.rounds ((begun i).front ++ (l.index + 1 + 1) % 256 ∷ []))
    ∙ ap encipher (front_and_last nonce (l.index + 1) (omega arith) (omega arith)) in
    let chunk : c.whole_block.result ≡ unread =
    c.whole_block.ensures ∙ ap (λ (zs : List ℕ). slice_chunk zs 16 l.index) (take_rest l.buffer c.args.from) in
    let block : next ≡ xor unread (encipher (counter_block nonce (l.index + 1))) =
    c.add.ensures ∙ (λ i. xor (stream i) (chunk i)) ∙ xor-comm (encipher (counter_block nonce (l.index + 1))) unread in
    rw (k, c.copy_from_slice.ensures.after) record {
      same_length = length-written l.buffer next (16 * l.index) 16 (omega arith) long ∙ l.invariant.same_length;
      begins = begun;
      streamed = λ bytes before.
          streamed_more encipher nonce bytes l.buffer next c.args.from l.index 16 (length-cipher c.args.words.now c.args.rounds) fits refl long block
          (l.invariant.streamed bytes before);
    }

pub returns-then-size-ne0 : goal.returns-then-size-ne0
returns-then-size-ne0 c bytes before =
    let l = c.loop-index in
    let encipher : List ℕ → List ℕ = cipher c.args.words.now c.args.rounds in
    let nonce : List ℕ = c.args.nonce.now in
    let size : ℕ = length c.args.buffer.now - c.args.from in
    let many : length bytes ≡ size = omega (arith, before.size) in
    let whole : ℕ = size / 16 in
    let at : l.index ≡ whole = omega arith in
    let chunk : c.filled_block-block.result ≡ filled (drop c.args.from l.buffer) whole 0 =
    c.filled_block-block.ensures ∙ ap (λ (zs : List ℕ). filled zs whole 0) (take_rest l.buffer c.args.from) in
    let is : c.add-then-size-ne0.new.block ≡ xor (filled (drop c.args.from l.buffer) whole 0) (encipher (counter_block nonce (whole + 1))) =
    c.add-then-size-ne0.ensures ∙ (λ i. xor (chunk i) (c.stream_block.ensures i)) in
    let left : length bytes % 16 ≡ size % 16 = ap (λ (k : ℕ). k % 16) many in
    streamed_end encipher nonce bytes l.buffer c.add-then-size-ne0.new.block c.copy_from_slice-then-size-ne0.new.self c.args.from whole (size - 16 * whole)
    (length-cipher c.args.words.now c.args.rounds) (ap (λ (k : ℕ). k / 16) (sym many)) (λ none. c.if-size-ne0.true (sym left ∙ none))
    (ap (λ (k : ℕ). k - 16 * whole) (sym many)) is
    (c.copy_from_slice-then-size-ne0.ensures.after ∙ ap (λ (k : ℕ). take k c.add-then-size-ne0.new.block) (sym left))
    (rw at at (l.invariant.streamed bytes before))

pub returns-else-size-ne0 : goal.returns-else-size-ne0
returns-else-size-ne0 c bytes before =
    let l = c.loop-index in
    let whole : length bytes ≡ 16 * l.index = omega (arith, before.size) in
    streamed_all (cipher c.args.words.now c.args.rounds) c.args.nonce.now bytes l.buffer c.args.from l.index whole (l.invariant.streamed bytes before)
