-- The key stream, block by block.
use Rattle.std.proofs.Common.{◌≡◌, ℕ, zero, suc, ◌+◌, ◌*◌, ◌-◌, ◌/◌, ◌%◌, ◌<◌, ◌≤◌, List, [], ◌∷◌, ◌++◌, length, get_or, map, take, drop, replicate, min, refl, sym, ap, ◌∙◌, arith, add-one, rules}
use Rattle.std.proofs.lemmas.List.{append-nil, drop-drop, drop_all, drop_at, get_or-map, length-append, length-drop, length-take, map-id, places, take_all, take_at}
use Rattle.std.proofs.lemmas.List.Concat.{flat_map-append}
use Rattle.std.proofs.lemmas.List.FromFn.{get_or-map-range_with_len, map-range_with_len_more}
use Rattle.std.proofs.lemmas.Slice.{drop-put_mid, take-put_mid}
use Rattle.std.specs.Fork.{slice_chunk}
use Rattle.std.specs.Int.{div_ceil}
use Rattle.std.specs.List.{flat_map, range_with_len}
use borrow.Rule.Slice.PartMut.{put_mid}
use Rattle.kr_modes.specs.Blocks.{xor}
use Rattle.kr_modes.specs.Gcm.{gctr, counter_block, key_stream}
use Rattle.kr_modes.specs.inner.Streamed.{IsStreamed}
use Rattle.kr_modes.proofs.Paddings.{filled, filled_whole}
use Rattle.kr_modes.proofs.Xors.{length-xor, take-xor, xor-append, xor_cut, xor_nothing}

range_with_len-more : (n : ℕ) → range_with_len 1 (n + 1) ≡ range_with_len 1 n ++ (n + 1) ∷ []
range_with_len-more n =
    sym (map-id (range_with_len 1 (n + 1))) ∙ map-range_with_len_more (λ k. k) 1 n (n + 1) (omega arith) ∙ ap (λ (ks : List ℕ). ks ++ (n + 1) ∷ []) (map-id (range_with_len 1 n))

-- a function whose values have 16 bytes each
abbrev pub GivesBlocks : (List ℕ → List ℕ) → Type 0
GivesBlocks encipher = (block : List ℕ) → length (encipher block) ≡ 16

key_stream-more : (encipher : List ℕ → List ℕ) (nonce : List ℕ) (n : ℕ)
    → key_stream encipher nonce (n + 1) ≡ key_stream encipher nonce n ++ encipher (counter_block nonce (n + 1))
unfolding key_stream
key_stream-more encipher nonce n =
    let f : ℕ → List ℕ = λ i. encipher (counter_block nonce i) in
    ap (flat_map f) (range_with_len-more n) ∙ flat_map-append f (range_with_len 1 n) ((n + 1) ∷ [])
    ∙ ap (λ (b : List ℕ). flat_map f (range_with_len 1 n) ++ b) (append-nil (f (n + 1)))

pub length-key_stream : (encipher : List ℕ → List ℕ) (nonce : List ℕ) → GivesBlocks encipher → (n : ℕ) → length (key_stream encipher nonce n) ≡ 16 * n
unfolding key_stream
length-key_stream encipher nonce gives zero = refl
length-key_stream encipher nonce gives (suc n) =
    let before = length-key_stream encipher nonce gives n in
    let more : key_stream encipher nonce (suc n) ≡ key_stream encipher nonce n ++ encipher (counter_block nonce (suc n)) =
    rw add-one at (key_stream-more encipher nonce n) in
    ap length more
    ∙ omega (arith, before, gives (counter_block nonce (suc n)), length-append (key_stream encipher nonce n) (encipher (counter_block nonce (suc n))))

pub length-gctr : (encipher : List ℕ → List ℕ) (nonce bytes : List ℕ) → GivesBlocks encipher → length (gctr encipher nonce bytes) ≡ length bytes
unfolding gctr
length-gctr encipher nonce bytes gives =
    let n : ℕ = div_ceil (length bytes) 16 in
    omega (arith, length-xor bytes (key_stream encipher nonce n), length-key_stream encipher nonce gives n)

-- nothing is written yet
pub stream_none : (encipher : List ℕ → List ℕ) (nonce bytes : List ℕ) → [] ≡ xor bytes (key_stream encipher nonce 0)
unfolding key_stream
stream_none encipher nonce bytes = sym (xor_nothing bytes)

-- a write of ys from a up to end
length-put_mid : (xs ys : List ℕ) (a end : ℕ) → a ≤ end → end ≤ length xs → length ys ≡ end - a → length (put_mid a (end - a) xs ys) ≡ length xs
length-put_mid xs ys a end ordered within long = search (rules, places)

-- a chunk xor a block, without what was filled up
cut_block : (bytes key : List ℕ) (i : ℕ) → length key ≡ 16
    → take (min (length bytes - i * 16) 16) (xor (filled bytes i 0) key) ≡ xor (drop (i * 16) bytes) key
cut_block bytes key i long =
    let rest : List ℕ = drop (i * 16) bytes in
    let m : ℕ = min (length bytes - i * 16) 16 in
    let size : length (take 16 rest) ≡ m = omega (arith, length-take 16 rest, length-drop (i * 16) bytes) in
    take-xor m (filled bytes i 0) key
    ∙ ap (λ (xs : List ℕ). xor xs key) (take_at (take 16 rest) (replicate (16 - length (take 16 rest)) 0) m size)
    ∙ sym (xor_cut 16 rest key (omega arith))

-- one more block is written
pub gctr_more : (encipher : List ℕ → List ℕ) (nonce bytes out block ys : List ℕ) (i end : ℕ) → GivesBlocks encipher
    → 16 * i ≤ length bytes → length bytes ≤ length out → end ≡ min (length bytes) (16 * i + 16)
    → block ≡ xor (filled bytes i 0) (encipher (counter_block nonce (i + 1))) → ys ≡ take (end - 16 * i) block
    → take (16 * i) out ≡ xor bytes (key_stream encipher nonce i)
    → (length (put_mid (16 * i) (end - 16 * i) out ys) ≡ length out) × (take end (put_mid (16 * i) (end - 16 * i) out ys) ≡ xor bytes (key_stream encipher nonce (i + 1)))
gctr_more encipher nonce bytes out block ys i end gives within room ends is cut before =
    let key : List ℕ = encipher (counter_block nonce (i + 1)) in
    let at : 16 * i ≡ i * 16 = omega arith in
    let size : end - 16 * i ≡ min (length bytes - i * 16) 16 = omega arith in
    let stream : length (key_stream encipher nonce i) ≡ 16 * i = length-key_stream encipher nonce gives i in
    let part : ys ≡ xor (drop (16 * i) bytes) key =
    cut ∙ (λ j. take (size j) (is j)) ∙ cut_block bytes key i (gives (counter_block nonce (i + 1))) ∙ ap (λ (k : ℕ). xor (drop k bytes) key) (sym at) in
    let long : length ys ≡ end - 16 * i =
    ap length part ∙ omega (arith, length-xor (drop (16 * i) bytes) key, length-drop (16 * i) bytes, gives (counter_block nonce (i + 1))) in
    let longer : xor bytes (key_stream encipher nonce (i + 1)) ≡ xor bytes (key_stream encipher nonce i) ++ xor (drop (16 * i) bytes) key =
    ap (xor bytes) (key_stream-more encipher nonce i)
    ∙ xor-append bytes (key_stream encipher nonce i) key (omega arith)
    ∙ ap (λ (k : ℕ). xor bytes (key_stream encipher nonce i) ++ xor (drop k bytes) key) stream in (
      length-put_mid out ys (16 * i) end (omega arith) (omega arith) long,
      take-put_mid (16 * i) (end - 16 * i) out ys end (omega arith) (omega arith) ∙ (λ j. before j ++ part j) ∙ sym longer,
    )

-- all is written
pub gctr_all : (encipher : List ℕ → List ℕ) (nonce bytes out : List ℕ) (i end : ℕ) → i ≡ div_ceil (length bytes) 16 → end ≡ length bytes
    → take end out ≡ xor bytes (key_stream encipher nonce i) → take (length bytes) out ≡ gctr encipher nonce bytes
unfolding gctr
gctr_all encipher nonce bytes out i end e ends before =
    ap (λ (n : ℕ). take n out) (sym ends) ∙ before ∙ ap (λ (n : ℕ). xor bytes (key_stream encipher nonce n)) e

-- the last block is written, which is no whole one
pub gctr_end : (encipher : List ℕ → List ℕ) (nonce bytes out block ys : List ℕ) (i k : ℕ) → GivesBlocks encipher
    → i ≡ length bytes / 16 → (length bytes % 16 ≡ 0 → ⊥) → length bytes ≤ length out → k ≡ length bytes - 16 * i
    → block ≡ xor (filled bytes i 0) (encipher (counter_block nonce (i + 1))) → ys ≡ take (length bytes % 16) block
    → take (16 * i) out ≡ xor bytes (key_stream encipher nonce i) → take (length bytes) (put_mid (16 * i) k out ys) ≡ gctr encipher nonce bytes
gctr_end encipher nonce bytes out block ys i k gives at some room size is cut before =
    let most : length bytes % 16 < 16 = omega arith in
    let left : length bytes % 16 ≡ length bytes - 16 * i = omega arith in
    let step = gctr_more encipher nonce bytes out block ys i (length bytes) gives (omega arith) room (omega arith) is
    (cut ∙ ap (λ (n : ℕ). take n block) left) before in
    ap (λ (n : ℕ). take (length bytes) (put_mid (16 * i) n out ys)) size
    ∙ gctr_all encipher nonce bytes (put_mid (16 * i) (length bytes - 16 * i) out ys) (i + 1) (length bytes) (omega arith) refl step.1

-- a write over all that follows xs
pub put_end : (xs zs ys : List ℕ) (a k : ℕ) → length xs ≡ a → length zs ≤ k → put_mid a k (xs ++ zs) ys ≡ xs ++ ys
put_end xs zs ys a k size most =
    let front : take a (xs ++ zs) ≡ xs = take_at xs zs a size in
    let rest : drop k (drop a (xs ++ zs)) ≡ [] = ap (drop k) (drop_at xs zs a size) ∙ drop_all k zs most in
    (λ i. front i ++ (ys ++ rest i)) ∙ ap (λ (s : List ℕ). xs ++ s) (append-nil ys)

-- ---- in one buffer

-- a block that isn't read yet
streamed_block : (encipher : List ℕ → List ℕ) (nonce bytes buffer : List ℕ) (from i : ℕ) → IsStreamed encipher nonce bytes buffer from i
    → slice_chunk (drop from buffer) 16 i ≡ slice_chunk bytes 16 i
streamed_block encipher nonce bytes buffer from i is =
    let at : 16 * i ≡ i * 16 = omega arith in
    ap (take 16) (drop-drop (i * 16) from buffer ∙ ap (λ (k : ℕ). drop (from + k) buffer) (sym at) ∙ is.unread ∙ ap (λ (k : ℕ). drop k bytes) at)

-- nothing is written yet
pub streamed_none : (encipher : List ℕ → List ℕ) (nonce buffer : List ℕ) (from : ℕ) → from ≤ length buffer
    → IsStreamed encipher nonce (drop from buffer) buffer from 0
streamed_none encipher nonce buffer from within = record {
  size = omega (arith, length-drop from buffer);
  written = stream_none encipher nonce (drop from buffer);
  unread = ap (λ (k : ℕ). drop k buffer) (omega arith);
}

-- one block more
pub streamed_more : (encipher : List ℕ → List ℕ) (nonce bytes buffer block : List ℕ) (from i k : ℕ) → GivesBlocks encipher
    → from + 16 * i + 16 ≤ length buffer → k ≡ 16 → length block ≡ 16
    → block ≡ xor (slice_chunk (drop from buffer) 16 i) (encipher (counter_block nonce (i + 1)))
    → IsStreamed encipher nonce bytes buffer from i → IsStreamed encipher nonce bytes (put_mid (16 * i) k buffer block) from (i + 1)
streamed_more encipher nonce bytes buffer block from i k gives fits size long is before =
    let many : length buffer ≡ from + length bytes = before.size in
    let end : ℕ = 16 * i + 16 in
    let next : end ≡ 16 * (i + 1) = omega arith in
    let part : end - 16 * i ≡ k = omega arith in
    let cut : block ≡ take (end - 16 * i) block = sym (take_all (end - 16 * i) block (omega arith)) in
    let value : block ≡ xor (filled bytes i 0) (encipher (counter_block nonce (i + 1))) =
    is ∙ ap (λ (xs : List ℕ). xor xs (encipher (counter_block nonce (i + 1))))
    (streamed_block encipher nonce bytes buffer from i before ∙ sym (filled_whole bytes i 0 (omega arith))) in
    let step = gctr_more encipher nonce bytes buffer block block i end gives (omega arith) (omega arith) (omega arith) value cut before.written in
    let put : put_mid (16 * i) (end - 16 * i) buffer block ≡ put_mid (16 * i) k buffer block =
    ap (λ (n : ℕ). put_mid (16 * i) n buffer block) part in
    let on : from + 16 * (i + 1) ≡ from + 16 * i + 16 = omega arith in
    record {
      size = ap length (sym put) ∙ step.0 ∙ many;
      written = (λ j. take (sym next j) (sym put j)) ∙ step.1;
      unread = drop-put_mid (16 * i) k buffer block (from + 16 * (i + 1)) (omega arith) (omega arith) (long ∙ sym size)
          ∙ ap (λ (n : ℕ). drop n buffer) on ∙ sym (drop-drop 16 (from + 16 * i) buffer)
          ∙ ap (drop 16) before.unread ∙ drop-drop 16 (16 * i) bytes ∙ ap (λ (n : ℕ). drop n bytes) next;
    }

-- all whole blocks are written, and there is nothing else
pub streamed_all : (encipher : List ℕ → List ℕ) (nonce bytes buffer : List ℕ) (from i : ℕ) → length bytes ≡ 16 * i
    → IsStreamed encipher nonce bytes buffer from i → take (length bytes) buffer ≡ gctr encipher nonce bytes
streamed_all encipher nonce bytes buffer from i whole before =
    gctr_all encipher nonce bytes buffer i (16 * i) (omega arith) (sym whole) before.written

-- the last block is written, which is no whole one
pub streamed_end : (encipher : List ℕ → List ℕ) (nonce bytes buffer block ys : List ℕ) (from i k : ℕ) → GivesBlocks encipher
    → i ≡ length bytes / 16 → (length bytes % 16 ≡ 0 → ⊥) → k ≡ length bytes - 16 * i
    → block ≡ xor (filled (drop from buffer) i 0) (encipher (counter_block nonce (i + 1))) → ys ≡ take (length bytes % 16) block
    → IsStreamed encipher nonce bytes buffer from i → take (length bytes) (put_mid (16 * i) k buffer ys) ≡ gctr encipher nonce bytes
streamed_end encipher nonce bytes buffer block ys from i k gives at some size is cut before =
    let chunk : filled (drop from buffer) i 0 ≡ filled bytes i 0 =
    ap (λ (zs : List ℕ). zs ++ replicate (16 - length zs) 0) (streamed_block encipher nonce bytes buffer from i before) in
    gctr_end encipher nonce bytes buffer block ys i k gives at some (omega (arith, before.size)) size
    (is ∙ ap (λ (xs : List ℕ). xor xs (encipher (counter_block nonce (i + 1)))) chunk) cut before.written

-- one of eight blocks of the key stream
pub stream_at : (encipher : List ℕ → List ℕ) (nonce : List ℕ) (n i : ℕ) → i < 8
    → get_or (map encipher (map (counter_block nonce) (range_with_len (n + 1) 8))) i [] ≡ encipher (counter_block nonce (n + i + 1))
stream_at encipher nonce n i lt =
    get_or-map encipher (map (counter_block nonce) (range_with_len (n + 1) 8)) i [] [] lt
    ∙ ap encipher (get_or-map-range_with_len (counter_block nonce) (n + 1) 8 i (n + i + 1) [] lt (omega arith))
