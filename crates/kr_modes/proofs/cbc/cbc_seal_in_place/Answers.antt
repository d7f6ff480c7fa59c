use Rattle.std.proofs.Common.{◌≡◌, ◌+◌, ◌*◌, ◌-◌, ◌/◌, ◌%◌, ◌≤◌, ℕ, List, length, replicate, refl, sym, ap, ◌∙◌, arith}
use Rattle.std.proofs.lemmas.List.{length-drop, take_rest}
use Rattle.std.specs.Fork.{slice_chunk}
use Rattle.std.specs.Int.{div_ceil}
use borrow.Rule.Slice.PartMut.{put_mid}
use Rattle.kr_aes.specs.Cipher.{cipher}
use Rattle.kr_aes.proofs.Blocks.{length-cipher}
use Rattle.kr_modes.specs.Blocks.{xor}
use Rattle.kr_modes.specs.Cbc.{cbc}
use Rattle.kr_modes.proofs.Chains.{chained_all, chained_more, chained_none, length-written, unread_block, unread_more}
use Rattle.kr_modes.proofs.Paddings.{padded_by}
use Rattle.kr_modes.proofs.Xors.{xor-comm}
use Rattle.kr_modes.proofs.cbc.cbc_seal_in_place.Goals as goal

pub loop-index-init : goal.loop-index-init
loop-index-init c =
    let old : List ℕ = c.args.buffer.now in
    let padded : List ℕ = put_mid c.args.size (length old - c.args.size) old c.fill.new.self in
    let long : length padded ≡ length old = length-written old c.fill.new.self c.args.size (length old - c.args.size) (omega (arith, c.requires.size)) (c.fill.ensures.len ∙ ap length (take_rest old c.args.size) ∙ length-drop c.args.size old) in
    record {
      same_length = refl;
      unread = refl;
      chained = chained_none (cipher c.args.words.now c.args.rounds) padded c.args.iv.now padded (c.args.size / 16 + 1) (let e : div_ceil (length padded) 16 ≡ c.args.size / 16 + 1 = omega (arith, long, c.requires.size) in e);
    }

pub loop-index-preserved : goal.loop-index-preserved
loop-index-preserved c =
    let l = c.loop-index in
    let old : List ℕ = c.args.buffer.now in
    let padded : List ℕ = put_mid c.args.size (length old - c.args.size) old c.fill.new.self in
    let size : length padded ≡ length old = length-written old c.fill.new.self c.args.size (length old - c.args.size) (omega (arith, c.requires.size)) (c.fill.ensures.len ∙ ap length (take_rest old c.args.size) ∙ length-drop c.args.size old) in
    let encipher : List ℕ → List ℕ = cipher c.args.words.now c.args.rounds in
    let next : List ℕ = c.encrypt_block.new.block in
    let k : 16 * l.index + 16 - 16 * l.index ≡ 16 = omega arith in
    let fits : 16 * l.index + 16 ≤ length l.buffer = omega (arith, l.invariant.same_length, size, c.requires.size) in
    let chunk : c.whole_block.result ≡ slice_chunk padded 16 l.index =
    c.whole_block.ensures ∙ unread_block l.buffer padded (16 * l.index) 0 l.index (omega arith) l.invariant.unread in
    let block : next ≡ encipher (xor (slice_chunk padded 16 l.index) l.block) =
    c.encrypt_block.ensures ∙ ap encipher (c.add.ensures ∙ ap (xor l.block) chunk ∙ xor-comm l.block (slice_chunk padded 16 l.index)) in
    let long : length next ≡ 16 = ap length block ∙ length-cipher c.args.words.now c.args.rounds _ in
    rw (k, c.copy_from_slice.ensures.after) record {
      same_length = length-written l.buffer next (16 * l.index) 16 fits long ∙ l.invariant.same_length;
      unread = unread_more l.buffer padded next l.index 16 fits refl long l.invariant.unread;
      chained = chained_more encipher l.buffer l.block padded next (c.args.size / 16 + 1) l.index 16 (omega arith) fits refl long block ∙ l.invariant.chained;
    }

pub returns : goal.returns
returns c =
    let l = c.loop-index in
    let old : List ℕ = c.args.buffer.now in
    let n : ℕ = c.args.size in
    let encipher : List ℕ → List ℕ = cipher c.args.words.now c.args.rounds in
    let padded : List ℕ = put_mid n (length old - n) old c.fill.new.self in
    let long : length padded ≡ length old = length-written old c.fill.new.self n (length old - n) (omega (arith, c.requires.size)) (c.fill.ensures.len ∙ ap length (take_rest old n) ∙ length-drop n old) in
    let behind : c.fill.new.self ≡ replicate (length old - n) (16 - n % 16) =
    c.fill.ensures.after (λ y e. e) ∙ ap (λ (k : ℕ). replicate k (16 - n % 16)) (ap length (take_rest old n) ∙ length-drop n old) in
    sym (chained_all encipher l.buffer l.block padded (n / 16 + 1) l.index (omega arith) (omega (arith, l.invariant.same_length, long, c.requires.size)))
    ∙ l.invariant.chained
    ∙ ap (cbc encipher c.args.iv.now) (padded_by old c.fill.new.self n (omega (arith, c.requires.size)) (omega (arith, c.requires.size)) behind)
