-- GHASH, block by block.
use Rattle.std.proofs.Common.{◌≡◌, ℕ, zero, suc, ◌+◌, ◌*◌, ◌-◌, ◌<◌, ◌≤◌, List, [], ◌∷◌, ◌++◌, length, take, drop, bit_xor, refl, sym, ap, ◌∙◌, arith}
use Rattle.std.proofs.lemmas.List.{drop-append-le, length-append, length-drop, length-take-le, nil_from_length, take-append-le}
use Rattle.std.specs.Fork.{slice_chunk}
use Rattle.std.specs.Int.{div_ceil}
use Rattle.kr_modes.specs.Blocks.{blocks}
use Rattle.kr_modes.specs.Gcm.{zero_padded}
use Rattle.kr_modes.specs.Ghash.{ghash_blocks, polynomial, product}
use Rattle.kr_modes.proofs.FirstBlocks.{blocks-first_blocks, first_blocks, first_blocks-from}
use Rattle.kr_modes.proofs.Paddings.{count_of_zero_padded, length-zero_padded, zero_padded_parts, zero_padded_whole}

-- what the blocks from i on make of a value
abbrev pub hashed_from : ℕ → ℕ → List ℕ → ℕ → ℕ
hashed_from h value bytes i = ghash_blocks h value (first_blocks (div_ceil (length bytes) 16 - i) (drop (i * 16) (zero_padded bytes)))

pub hashed_none : (h value : ℕ) (bytes : List ℕ) → hashed_from h value bytes 0 ≡ ghash_blocks h value (blocks (zero_padded bytes))
hashed_none h value bytes =
    let all : div_ceil (length bytes) 16 - 0 ≡ div_ceil (length (zero_padded bytes)) 16 = omega (arith, count_of_zero_padded bytes) in
    ap (ghash_blocks h value) (ap (λ (n : ℕ). first_blocks n (zero_padded bytes)) all ∙ sym (blocks-first_blocks (zero_padded bytes)))

pub hashed_more : (h value next : ℕ) (bytes : List ℕ) (i : ℕ) → i < div_ceil (length bytes) 16
    → next ≡ product (bit_xor value (polynomial (slice_chunk (zero_padded bytes) 16 i))) h
    → hashed_from h next bytes (i + 1) ≡ hashed_from h value bytes i
unfolding ghash_blocks
hashed_more h value next bytes i lt is =
    let rest : List (List ℕ) = first_blocks (div_ceil (length bytes) 16 - (i + 1)) (drop ((i + 1) * 16) (zero_padded bytes)) in
    ap (λ (v : ℕ). ghash_blocks h v rest) is
    ∙ sym (ap (ghash_blocks h value) (first_blocks-from (zero_padded bytes) (div_ceil (length bytes) 16) i lt))

pub hashed_all : (h value : ℕ) (bytes : List ℕ) (i : ℕ) → i ≡ div_ceil (length bytes) 16 → hashed_from h value bytes i ≡ value
unfolding ghash_blocks first_blocks
hashed_all h value bytes i e =
    let none : div_ceil (length bytes) 16 - i ≡ 0 = omega arith in
    rw none refl

pub ghash_blocks-append : (h value : ℕ) (xs ys : List (List ℕ)) → ghash_blocks h value (xs ++ ys) ≡ ghash_blocks h (ghash_blocks h value xs) ys
unfolding ghash_blocks
ghash_blocks-append h value [] ys = refl
ghash_blocks-append h value (x ∷ xs) ys = ghash_blocks-append h (product (bit_xor value (polynomial x)) h) xs ys

-- ---- the blocks of two strings, of which the first has whole blocks

first_blocks-append : (n m : ℕ) (xs ys : List ℕ) → length xs ≡ n * 16 → first_blocks (n + m) (xs ++ ys) ≡ first_blocks n xs ++ first_blocks m ys
unfolding first_blocks
first_blocks-append zero m xs ys e =
    let all : zero + m ≡ m = omega arith in
    let none : xs ≡ [] = nil_from_length xs (omega arith) in
    rw (all, none) refl
first_blocks-append (suc n) m xs ys e =
    let next : suc n + m ≡ suc (n + m) = omega arith in
    let front : take 16 (xs ++ ys) ≡ take 16 xs = take-append-le 16 xs ys (omega arith) in
    let rest : drop 16 (xs ++ ys) ≡ drop 16 xs ++ ys = drop-append-le 16 xs ys (omega arith) in
    rw (next, front, rest, first_blocks-append n m (drop 16 xs) ys (omega (arith, length-drop 16 xs))) refl

pub blocks-append : (xs ys : List ℕ) (n : ℕ) → length xs ≡ n * 16 → blocks (xs ++ ys) ≡ blocks xs ++ blocks ys
blocks-append xs ys n e =
    let m : ℕ = div_ceil (length ys) 16 in
    let one : div_ceil (length xs) 16 ≡ n = omega arith in
    let both : div_ceil (length (xs ++ ys)) 16 ≡ n + m = omega (arith, length-append xs ys) in
    blocks-first_blocks (xs ++ ys) ∙ ap (λ (k : ℕ). first_blocks k (xs ++ ys)) both ∙ first_blocks-append n m xs ys e
    ∙ (λ i. sym (blocks-first_blocks xs ∙ ap (λ (k : ℕ). first_blocks k xs) one) i ++ sym (blocks-first_blocks ys) i)

-- whole blocks first, and then the rest
pub hashed_in_parts : (h value : ℕ) (bytes : List ℕ) (n k : ℕ) → k ≡ n * 16 → k ≤ length bytes
    → ghash_blocks h (ghash_blocks h value (blocks (zero_padded (take k bytes)))) (blocks (zero_padded (drop k bytes)))
    ≡ ghash_blocks h value (blocks (zero_padded bytes))
hashed_in_parts h value bytes n k e within =
    let front : List ℕ = take k bytes in
    let rest : List ℕ = zero_padded (drop k bytes) in
    let size : length front ≡ n * 16 = length-take-le k bytes within ∙ e in
    ap (λ (bs : List ℕ). ghash_blocks h (ghash_blocks h value (blocks bs)) (blocks rest)) (zero_padded_whole front n size)
    ∙ sym (ghash_blocks-append h value (blocks front) (blocks rest))
    ∙ ap (ghash_blocks h value) (sym (blocks-append front rest n size))
    ∙ ap (λ (bs : List ℕ). ghash_blocks h value (blocks bs)) (sym (zero_padded_parts bytes n k e within))

-- the hash of the associated data, the ciphertext and the block of their lengths
pub hash_of_three : (h : ℕ) (aad ciphertext lengths : List ℕ) → length lengths ≡ 16
    → ghash_blocks h 0 (blocks (zero_padded aad ++ zero_padded ciphertext ++ lengths))
    ≡ ghash_blocks h (ghash_blocks h (ghash_blocks h 0 (blocks (zero_padded aad))) (blocks (zero_padded ciphertext))) (blocks (zero_padded lengths))
hash_of_three h aad ciphertext lengths long =
    let a : List ℕ = zero_padded aad in
    let c : List ℕ = zero_padded ciphertext in
    let n : ℕ = div_ceil (length aad) 16 in
    let m : ℕ = div_ceil (length ciphertext) 16 in
    let whole : lengths ≡ zero_padded lengths = sym (zero_padded_whole lengths 1 (omega arith)) in
    let front : blocks (a ++ c) ≡ blocks a ++ blocks c = blocks-append a c n (length-zero_padded aad) in
    let all : blocks (a ++ c ++ lengths) ≡ blocks a ++ blocks c ++ blocks lengths =
    blocks-append (a ++ c) lengths (n + m) (omega (arith, length-append a c, length-zero_padded aad, length-zero_padded ciphertext))
    ∙ ap (λ (bs : List (List ℕ)). bs ++ blocks lengths) front in
    ap (ghash_blocks h 0) all
    ∙ ghash_blocks-append h 0 (blocks a ++ blocks c) (blocks lengths)
    ∙ ap (λ (v : ℕ). ghash_blocks h v (blocks lengths)) (ghash_blocks-append h 0 (blocks a) (blocks c))
    ∙ ap (λ (bs : List ℕ). ghash_blocks h (ghash_blocks h (ghash_blocks h 0 (blocks a)) (blocks c)) (blocks bs)) whole
