-- The keys' planes: at each of the eight blocks they have the key's bytes.
use Rattle.std.proofs.Common.{◌≡◌, ℕ, zero, suc, ◌+◌, ◌*◌, ◌/◌, ◌%◌, ◌<◌, ◌∙◌, List, bit_xor, get_or, slice_index, ap, sym, arith}
use Rattle.std.specs.Int.{bit_at}
use Rattle.std.proofs.lemmas.List.FromFn.{get_or-map-range_with_len}
use Rattle.std.proofs.lemmas.Nat.Bits.{bit_at-lt, bit_at-zero, bit_at_ones}
use Rattle.kr_aes.specs.Cipher.{add_round_key, cell, word_byte}
use Rattle.kr_aes.proofs.Blocks.{word_byte-lt}
use Rattle.kr_aes_bitsliced.specs.declared.planes.Planes.{Planes}
use Rattle.kr_aes_bitsliced.specs.KeyPlanes.{key_plane, key_planes, round_planes}
use Rattle.kr_aes_bitsliced.specs.inner.Planes.{place_of, plane, sliced_block, sliced_byte}
use Rattle.kr_aes_bitsliced.proofs.ByteBits.{byte_of_bits, each_of_eight, same_bits}
use Rattle.kr_aes_bitsliced.proofs.SlicedBlocks.{cell-sliced_block, sliced_block-cell_state}

-- 255 times a bit has that bit at each place
spread_bit : (bit b : ℕ) → bit < 2 → b < 8 → bit_at (255 * bit) b ≡ bit
spread_bit zero b few lt = bit_at-zero b
spread_bit (suc zero) b few lt = bit_at_ones 8 b lt
spread_bit (suc (suc n)) b few lt = absurd (omega arith)

-- byte p of a round's key
abbrev pub key_byte : List ℕ → ℕ → ℕ → ℕ
key_byte words round p = word_byte (slice_index words (4 * round + p % 4)) (p / 4)

-- bit b of byte p of plane k
abbrev bit_of : Planes → ℕ → ℕ → ℕ → ℕ
bit_of planes b p k = bit_at (slice_index (plane planes k) p) b

key_plane_bit : (words : List ℕ) (round b p : ℕ) → b < 8 → p < 16 → (k : ℕ)
    → bit_at (slice_index (key_plane words round k) p) b ≡ bit_at (key_byte words round p) k
key_plane_bit words round b p some lt k =
    ap (λ n. bit_at n b)
    (get_or-map-range_with_len (λ q. 255 * bit_at (key_byte words round q) k)
    0 16 p p 0 lt (omega arith))
    ∙ spread_bit (bit_at (key_byte words round p) k) b (bit_at-lt (key_byte words round p) k) some

sliced_key_byte : (words : List ℕ) (round b p : ℕ) → b < 8 → p < 16
    → sliced_byte (round_planes words round) b p ≡ key_byte words round p
unfolding sliced_byte
sliced_key_byte words round b p some lt =
    let bit : (k : ℕ)
    → bit_at (slice_index (key_plane words round k) p) b ≡ bit_at (key_byte words round p) k =
    key_plane_bit words round b p some lt in
    same_bits (bit_of (round_planes words round) b p) (bit_at (key_byte words round p))
    (each_of_eight
    (λ k. bit_of (round_planes words round) b p k ≡ bit_at (key_byte words round p) k)
    (bit 0) (bit 1) (bit 2) (bit 3) (bit 4) (bit 5) (bit 6) (bit 7))
    ∙ byte_of_bits (key_byte words round p)
    (word_byte-lt (slice_index words (4 * round + p % 4)) (p / 4))

-- the planes of one round among those of all
pub key_of_round : (words : List ℕ) (keys : List Planes) (round : ℕ) (other : Planes) → round < 15
    → keys ≡ key_planes words → get_or keys round other ≡ round_planes words round
unfolding key_planes
key_of_round words keys round other lt is =
    ap (λ (all : List Planes). get_or all round other) is
    ∙ get_or-map-range_with_len (round_planes words) 0 15 round round other lt (omega arith)

-- where each byte is the sum with the key's, the key is added
pub added_key : (words : List ℕ) (round b : ℕ) (planes key sum : Planes) → b < 8
    → key ≡ round_planes words round
    → ((p : ℕ) → p < 16
    → sliced_byte sum b p ≡ bit_xor (sliced_byte planes b p) (sliced_byte key b p))
    → sliced_block sum b ≡ add_round_key words round (sliced_block planes b)
unfolding add_round_key
added_key words round b planes key sum some key_is is =
    sliced_block-cell_state sum b
    (λ row column. bit_xor (cell (sliced_block planes b) row column)
    (word_byte (slice_index words (4 * round + column)) row))
    (λ row column hr hc.
    let p : ℕ = place_of row column in
    let lt : p < 16 = omega arith in
    let p_row : p / 4 ≡ row = omega arith in
    let p_column : p % 4 ≡ column = omega arith in
    let byte : sliced_byte planes b p ≡ cell (sliced_block planes b) row column =
    sym (cell-sliced_block planes b row column hr hc) in
    is p lt
    ∙ (λ i. bit_xor (byte i) (sliced_byte (key_is i) b p))
    ∙ ap (bit_xor (cell (sliced_block planes b) row column))
    (sliced_key_byte words round b p some lt
    ∙ (λ i. word_byte (slice_index words (4 * round + p_column i)) (p_row i))))
