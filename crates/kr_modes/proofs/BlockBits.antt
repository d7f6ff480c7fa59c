-- The bits of a block's polynomial are those of the block, from the left.
use Rattle.std.proofs.Common.{◌≡◌, ℕ, zero, suc, ◌+◌, ◌*◌, ◌-◌, ◌/◌, ◌%◌, ◌^◌, ◌<◌, List, length, slice_index, refl, subst, sym, ap, ◌∙◌, arith, inl, inr}
use Rattle.std.proofs.Math.Nat.{pow-suc}
use Rattle.std.proofs.lemmas.Bool.{cases_lt}
use Rattle.std.proofs.lemmas.List.{ext_get_or}
use Rattle.std.proofs.lemmas.Nat.{mod_below, pow-add, shr-shr}
use Rattle.std.proofs.lemmas.Nat.Bits.{bit_at-suc, bit_at_cat_high, bit_at_cat_low, bit_at_lowest, same_from_bits_below}
use Rattle.std.specs.Int.{w128, bit_at, byte_at, bytes_high_first, from_be_bytes, from_le_bytes, reverse_bits, reverse_bits_onto}
use Rattle.kr_aes.specs.Cipher.{IsBlock}
use Rattle.kr_aes.proofs.Blocks.{cell-lt}
use Rattle.kr_modes.specs.Ghash.{polynomial_block, polynomial}

-- ---- reversed bits

reversed_above : (k n a j : ℕ) → bit_at (reverse_bits_onto k n a) (k + j) ≡ bit_at a j
unfolding reverse_bits_onto
reversed_above zero n a j =
    let e : 0 + j ≡ j = omega arith in
    ap (bit_at a) e
reversed_above (suc k) n a j =
    let e : suc k + j ≡ k + suc j = omega arith in
    let half : (a * 2 + n % 2) / 2 ≡ a = omega arith in
    ap (bit_at (reverse_bits_onto k (n / 2) (a * 2 + n % 2))) e
    ∙ reversed_above k (n / 2) (a * 2 + n % 2) (suc j)
    ∙ bit_at-suc (a * 2 + n % 2) j
    ∙ ap (λ (x : ℕ). bit_at x j) half

pub reversed_bit : (k n a i : ℕ) → i < k → bit_at (reverse_bits_onto k n a) i ≡ bit_at n (k - 1 - i)
unfolding reverse_bits_onto
reversed_bit zero n a i lt = absurd (omega arith)
reversed_bit (suc k) n a i lt = elim (cases_lt i k) [
  | inl below ↦
      let e : suc (k - 1 - i) ≡ suc k - 1 - i = omega arith in
      reversed_bit k (n / 2) (a * 2 + n % 2) i below ∙ sym (bit_at-suc n (k - 1 - i)) ∙ ap (bit_at n) e
  | inr top ↦
      let at : i ≡ k + 0 = omega arith in
      let e : 0 ≡ suc k - 1 - i = omega arith in
      let low : (a * 2 + n % 2) % 2 ≡ n % 2 = omega arith in
      ap (bit_at (reverse_bits_onto k (n / 2) (a * 2 + n % 2))) at
      ∙ reversed_above k (n / 2) (a * 2 + n % 2) 0
      ∙ bit_at_lowest (a * 2 + n % 2) ∙ low ∙ sym (bit_at_lowest n) ∙ ap (bit_at n) e
]

-- ---- bytes, the highest first

pub joined : ℕ → (ℕ → ℕ) → ℕ
joined zero byte = 0
joined (suc k) byte = joined k byte * 2 ^ 8 + byte k

pub joined_bit : (k : ℕ) (byte : ℕ → ℕ) → ((i : ℕ) → byte i < 256) → (j : ℕ) → j < 8 * k → bit_at (joined k byte) j ≡ bit_at (byte (k - 1 - j / 8)) (j % 8)
unfolding joined
joined_bit zero byte fits j lt = absurd (omega arith)
joined_bit (suc k) byte fits j lt = elim (cases_lt j 8) [
  | inl low ↦
      let place : k ≡ suc k - 1 - j / 8 = omega arith in
      let bit : j ≡ j % 8 = omega arith in
      bit_at_cat_low (joined k byte) 8 (byte k) j low ∙ (λ i. bit_at (byte (place i)) (bit i))
  | inr high ↦
      let place : k - 1 - (j - 8) / 8 ≡ suc k - 1 - j / 8 = omega arith in
      let bit : (j - 8) % 8 ≡ j % 8 = omega arith in
      bit_at_cat_high (joined k byte) 8 (byte k) j (fits k) high
      ∙ joined_bit k byte fits (j - 8) (omega arith) ∙ (λ i. bit_at (byte (place i)) (bit i))
]

joined_16 : (block : List ℕ) → from_be_bytes w128 block ≡ joined 16 (slice_index block)
unfolding joined
joined_16 block = omega arith

pub bit_of_polynomial : (block : List ℕ) (i : ℕ) → IsBlock block → i < 128 → bit_at (polynomial block) i ≡ bit_at (slice_index block (i / 8)) (7 - i % 8)
unfolding polynomial
bit_of_polynomial block i is lt =
    let j : ℕ = 127 - i in
    let e : 128 - 1 - i ≡ j = omega arith in
    let place : 16 - 1 - j / 8 ≡ i / 8 = omega arith in
    let bit : j % 8 ≡ 7 - i % 8 = omega arith in
    reversed_bit 128 (from_be_bytes w128 block) 0 i lt
    ∙ (λ k. bit_at (joined_16 block k) (e k))
    ∙ joined_bit 16 (slice_index block) (cell-lt block is) j (omega arith)
    ∙ (λ k. bit_at (slice_index block (place k)) (bit k))

pub reversed-lt : (k m n a : ℕ) → a < 2 ^ m → reverse_bits_onto k n a < 2 ^ (m + k)
unfolding reverse_bits_onto
reversed-lt zero m n a lt =
    let e : m ≡ m + 0 = omega arith in
    subst (λ (x : ℕ). a < 2 ^ x) e lt
reversed-lt (suc k) m n a lt =
    let e : suc m + k ≡ m + suc k = omega arith in
    let grown : a * 2 + n % 2 < 2 ^ suc m = omega (arith, pow-suc 2 m) in
    subst (λ (x : ℕ). reverse_bits_onto k (n / 2) (a * 2 + n % 2) < 2 ^ x) e
    (reversed-lt k (suc m) (n / 2) (a * 2 + n % 2) grown)

pub joined_low_16 : (bytes : List ℕ)
    → from_le_bytes w128 bytes ≡ joined 16 (λ k. slice_index bytes (15 - k))
unfolding joined
joined_low_16 bytes = omega arith

-- ---- and back

pub low_byte : (x j : ℕ) → j < 8 → bit_at (x % 256) j ≡ bit_at x j
low_byte x j lt =
    let split : x / 256 * 2 ^ 8 + x % 256 ≡ x = omega arith in
    sym (bit_at_cat_low (x / 256) 8 (x % 256) j lt) ∙ ap (λ (y : ℕ). bit_at y j) split

pub pow_of_bytes : (i : ℕ) → 256 ^ i ≡ 2 ^ (8 * i)
pow_of_bytes zero = refl
pow_of_bytes (suc i) =
    let e : 8 * i + 8 ≡ 8 * suc i = omega arith in
    pow-suc 256 i ∙ ap (λ (x : ℕ). x * 256) (pow_of_bytes i) ∙ sym (pow-add 2 (8 * i) 8) ∙ ap (λ (k : ℕ). 2 ^ k) e

pub bit_of_byte : (i n j : ℕ) → j < 8 → bit_at (byte_at i n) j ≡ bit_at n (8 * i + j)
bit_of_byte zero n j lt =
    let e : j ≡ 8 * 0 + j = omega arith in
    low_byte n j lt ∙ ap (bit_at n) e
bit_of_byte (suc i) n j lt =
    low_byte (n / 256 ^ suc i) j lt
    ∙ ap (λ (x : ℕ). n / x / 2 ^ j % 2) (pow_of_bytes (suc i))
    ∙ ap (λ (x : ℕ). x % 2) (shr-shr n (8 * suc i) j)

pub byte_at-lt : (i n : ℕ) → byte_at i n < 256
byte_at-lt zero n = mod_below n 256 (omega arith)
byte_at-lt (suc i) n = mod_below (n / 256 ^ suc i) 256 (omega arith)

pub high_first : (m n k : ℕ) → k < m → slice_index (bytes_high_first m n) k ≡ byte_at (m - 1 - k) n
high_first zero n k lt = absurd (omega arith)
high_first (suc m) n zero lt =
    let e : m ≡ suc m - 1 - 0 = omega arith in
    ap (λ (i : ℕ). byte_at i n) e
high_first (suc m) n (suc k) lt =
    let e : m - 1 - k ≡ suc m - 1 - suc k = omega arith in
    high_first m n k (omega arith) ∙ ap (λ (i : ℕ). byte_at i n) e

byte_of_block : (p i : ℕ) → i < 16 → slice_index (polynomial_block p) i ≡ byte_at (15 - i) (reverse_bits w128 p)
unfolding polynomial_block
byte_of_block p i lt =
    let e : 16 - 1 - i ≡ 15 - i = omega arith in
    high_first 16 (reverse_bits w128 p) i lt ∙ ap (λ (k : ℕ). byte_at k (reverse_bits w128 p)) e

bit_of_block : (p i j : ℕ) → i < 16 → j < 8 → bit_at (slice_index (polynomial_block p) i) j ≡ bit_at p (8 * i + (7 - j))
bit_of_block p i j hi hj =
    let e : 128 - 1 - (8 * (15 - i) + j) ≡ 8 * i + (7 - j) = omega arith in
    ap (λ (x : ℕ). bit_at x j) (byte_of_block p i hi)
    ∙ bit_of_byte (15 - i) (reverse_bits w128 p) j hj
    ∙ reversed_bit 128 p 0 (8 * (15 - i) + j) (omega arith)
    ∙ ap (bit_at p) e

length-polynomial_block : (p : ℕ) → length (polynomial_block p) ≡ 16
unfolding polynomial_block
length-polynomial_block p = refl

same_bit : (block : List ℕ) (i j : ℕ) → IsBlock block → i < 16 → j < 8 → bit_at (slice_index (polynomial_block (polynomial block)) i) j ≡ bit_at (slice_index block i) j
same_bit block i j is hi hj =
    let at : (8 * i + (7 - j)) / 8 ≡ i = omega arith in
    let bit : 7 - (8 * i + (7 - j)) % 8 ≡ j = omega arith in
    bit_of_block (polynomial block) i j hi hj
    ∙ bit_of_polynomial block (8 * i + (7 - j)) is (omega arith)
    ∙ (λ k. bit_at (slice_index block (at k)) (bit k))

same_byte : (block : List ℕ) (i : ℕ) → IsBlock block → i < 16 → slice_index (polynomial_block (polynomial block)) i ≡ slice_index block i
same_byte block i is lt =
    same_from_bits_below 8 (slice_index (polynomial_block (polynomial block)) i) (slice_index block i)
    (rw (byte_of_block (polynomial block) i lt) (byte_at-lt (15 - i) (reverse_bits w128 (polynomial block)))) (cell-lt block is i)
    (λ j less. same_bit block i j is lt less)

-- the block of a block's polynomial is that block
pub polynomial_block-polynomial : (block : List ℕ) → IsBlock block → polynomial_block (polynomial block) ≡ block
polynomial_block-polynomial block is =
    let size : length block ≡ 16 = is.size in
    let long : length (polynomial_block (polynomial block)) ≡ 16 = length-polynomial_block (polynomial block) in
    ext_get_or 0 (polynomial_block (polynomial block)) block (omega arith) (λ i lt. same_byte block i is (omega arith))
