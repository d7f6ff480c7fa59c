-- Opening by CBC in one buffer, block by block.
use Rattle.std.proofs.Common.{◌≡◌, ℕ, suc, ◌+◌, ◌*◌, ◌<◌, ◌≤◌, List, [], ◌++◌, get_or, length, map, take, drop, refl, sym, ap, ◌∙◌, arith}
use Rattle.std.proofs.lemmas.List.{append_assoc, append-nil, drop-drop, drop_all, get_or-map, length-drop}
use Rattle.std.proofs.lemmas.List.FromFn.{get_or-map-range_with_len}
use Rattle.std.proofs.lemmas.Slice.{drop-put_mid, take-put_mid}
use Rattle.std.specs.Fork.{slice_chunk}
use Rattle.std.specs.Int.{div_ceil}
use Rattle.std.specs.List.{range_with_len}
use borrow.Rule.Slice.PartMut.{put_mid}
use Rattle.kr_modes.specs.Blocks.{blocks, xor}
use Rattle.kr_modes.specs.Cbc.{uncbc, uncbc_blocks}
use Rattle.kr_modes.specs.inner.Opened.{opened_from}
use Rattle.kr_modes.proofs.Chains.{unread_block}
use Rattle.kr_modes.proofs.FirstBlocks.{blocks-first_blocks, first_blocks}

-- the first block behind an IV is the IV of the rest
uncbc_next : (decipher : List ℕ → List ℕ) (iv bytes : List ℕ) → 16 ≤ length bytes
    → uncbc decipher iv bytes
    ≡ xor (decipher (take 16 bytes)) iv ++ uncbc decipher (take 16 bytes) (drop 16 bytes)
unfolding uncbc uncbc_blocks first_blocks
uncbc_next decipher iv bytes some =
    let rest : List ℕ = drop 16 bytes in
    let count : div_ceil (length bytes) 16 ≡ suc (div_ceil (length rest) 16) =
    omega (arith, length-drop 16 bytes) in
    ap (uncbc_blocks decipher iv) (blocks-first_blocks bytes ∙ ap (λ (n : ℕ). first_blocks n bytes) count)
    ∙ ap (λ (bs : List (List ℕ)). xor (decipher (take 16 bytes)) iv ++ uncbc_blocks decipher (take 16 bytes) bs)
    (sym (blocks-first_blocks rest))

-- one block more
pub opened_more : (decipher : List ℕ → List ℕ) (xs block : List ℕ) (from i k : ℕ)
    → from + 16 * i + 32 ≤ length xs → k ≡ 16 → length block ≡ 16
    → block ≡ xor (decipher (slice_chunk (drop from xs) 16 (i + 1))) (slice_chunk (drop from xs) 16 i)
    → opened_from decipher from (i + 1) (put_mid (16 * i) k xs block) ≡ opened_from decipher from i xs
unfolding opened_from
opened_more decipher xs block from i k fits size long is =
    let sealed : List ℕ = drop (from + 16 * i) xs in
    let at : (j : ℕ) → drop (j * 16) (drop from xs) ≡ drop (from + 16 * j) xs = λ j.
    drop-drop (j * 16) from xs ∙ ap (λ (n : ℕ). drop n xs) (omega arith) in
    let next : drop (from + 16 * (i + 1)) xs ≡ drop 16 sealed =
    ap (λ (n : ℕ). drop n xs) (omega arith) ∙ sym (drop-drop 16 (from + 16 * i) xs) in
    let behind : drop (from + 16 * (i + 1)) (put_mid (16 * i) k xs block) ≡ drop 16 sealed =
    drop-put_mid (16 * i) k xs block (from + 16 * (i + 1)) (omega arith) (omega arith) (long ∙ sym size) ∙ next in
    let front : take (16 * (i + 1)) (put_mid (16 * i) k xs block) ≡ take (16 * i) xs ++ block =
    take-put_mid (16 * i) k xs block (16 * (i + 1)) (omega arith) (omega arith) in
    let value : block ≡ xor (decipher (take 16 (drop 16 sealed))) (take 16 sealed) =
    is ∙ (λ n. xor (decipher (take 16 ((at (i + 1) ∙ next) n))) (take 16 (at i n))) in
    rw (
      front,
      behind,
      append_assoc (take (16 * i) xs) block (uncbc decipher (take 16 (drop 16 sealed)) (drop 16 (drop 16 sealed))),
      uncbc_next decipher (take 16 sealed) (drop 16 sealed) (omega (arith, length-drop 16 sealed, length-drop (from + 16 * i) xs)),
      ← value,
    ) refl

-- one of eight blocks that were deciphered before those in front of it were written over
pub deciphered_at : (decipher : List ℕ → List ℕ) (xs ys : List ℕ) (from opened i : ℕ) → i < 8
    → drop (16 * (opened + i)) xs ≡ drop (16 * (opened + i)) ys
    → get_or (map decipher (map (slice_chunk (drop from ys) 16) (range_with_len (opened + 1) 8))) i []
    ≡ decipher (slice_chunk (drop from xs) 16 (opened + i + 1))
deciphered_at decipher xs ys from opened i lt e =
    let chunk : ℕ → List ℕ = slice_chunk (drop from ys) 16 in
    get_or-map decipher (map chunk (range_with_len (opened + 1) 8)) i [] [] lt
    ∙ ap decipher (get_or-map-range_with_len chunk (opened + 1) 8 i (opened + i + 1) [] lt (omega arith)
    ∙ sym (unread_block xs ys (16 * (opened + i)) from (opened + i + 1) (omega arith) e))

-- nothing is opened yet
pub opened_none : (decipher : List ℕ → List ℕ) (xs : List ℕ) (from : ℕ)
    → opened_from decipher from 0 xs ≡ uncbc decipher (take 16 (drop from xs)) (drop 16 (drop from xs))
unfolding opened_from
opened_none decipher xs from =
    let at : from + 16 * 0 ≡ from = omega arith in
    rw at refl

-- all is opened
pub opened_all : (decipher : List ℕ → List ℕ) (xs : List ℕ) (from i n : ℕ) → length xs ≡ from + 16 * i + 16
    → n ≡ 16 * i → opened_from decipher from i xs ≡ take n xs
unfolding opened_from uncbc uncbc_blocks blocks
opened_all decipher xs from i n long is =
    let sealed : List ℕ = drop (from + 16 * i) xs in
    let none : drop 16 sealed ≡ [] = drop_all 16 sealed (omega (arith, length-drop (from + 16 * i) xs)) in
    rw (none, is) (append-nil (take (16 * i) xs))
