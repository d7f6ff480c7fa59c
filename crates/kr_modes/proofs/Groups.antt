-- Products by the tables, a group of four coefficients after another.
use Rattle.std.proofs.Common.{◌≡◌, ℕ, zero, suc, ◌+◌, ◌*◌, ◌/◌, ◌%◌, ◌^◌, ◌<◌, ◌≤◌, slice_index, bit_xor, sym, ap, ◌∙◌, arith, inl, inr}
use Rattle.std.specs.Int.{w128, bit_at, byte_at, bytes_low_first, to_le_bytes}
use Rattle.std.specs.Int.Bits.{xor_zero_r}
use Rattle.std.proofs.lemmas.Nat.{shr-shr, xor_comm}
use Rattle.std.proofs.lemmas.Nat.Bits.{bit_at-lt, bit_at_cat_low}
use lib.Bits.{xor_assoc}
use Rattle.kr_aes.proofs.Linear.{below_two, one_times, zero_times}
use Rattle.kr_modes.specs.inner.Tables.{four_terms, power, times_x}
use Rattle.kr_modes.proofs.BlockBits.{pow_of_bytes}
use Rattle.kr_modes.proofs.Remainders.{partial_product, partial_product_next, partial_product_same, power_next}

-- ---- four coefficients

pub bit_of_group : (a i k : ℕ) → k < 4 → bit_at (a / 2 ^ i % 16) k ≡ bit_at a (i + k)
bit_of_group a i k lt =
    let x : ℕ = a / 2 ^ i in
    let split : x / 16 * 2 ^ 4 + x % 16 ≡ x = omega arith in
    sym (bit_at_cat_low (x / 16) 4 (x % 16) k lt) ∙ ap (λ (y : ℕ). bit_at y k) split ∙ ap (λ (y : ℕ). y % 2) (shr-shr a i k)

pub term_more : (i a h : ℕ) → i < 128 → h < 2 ^ 128
    → partial_product (i + 1) a h ≡ bit_xor (partial_product i a h) (bit_at a i * power i h)
term_more i a h lt fits = elim (below_two (bit_at a i) (bit_at-lt a i)) [
  | inl none ↦ rw (none, zero_times (power i h), xor_zero_r (partial_product i a h)) (sym (partial_product_same i a h none))
  | inr one ↦ rw (one, one_times (power i h)) (sym (partial_product_next i a h lt fits one))
]

four_sum : (x a b c d : ℕ)
    → bit_xor (bit_xor (bit_xor (bit_xor x a) b) c) d ≡ bit_xor x (bit_xor (bit_xor a b) (bit_xor c d))
four_sum x a b c d = simp xor_assoc

-- two sums that each get one more
pub sums_exchanged : (a x b y : ℕ) → bit_xor (bit_xor a x) (bit_xor b y) ≡ bit_xor (bit_xor (bit_xor a b) x) y
sums_exchanged a x b y =
    sym (xor_assoc (bit_xor a x) b y)
    ∙ ap (λ (s : ℕ). bit_xor s y) (xor_assoc a x b ∙ ap (bit_xor a) (xor_comm x b) ∙ sym (xor_assoc a b x))

pub group_more : (i a h : ℕ) → i + 4 ≤ 128 → h < 2 ^ 128
    → bit_xor (partial_product i a h) (four_terms (a / 2 ^ i % 16) (power i h)) ≡ partial_product (i + 4) a h
unfolding four_terms
group_more i a h within fits =
    let v : ℕ = a / 2 ^ i % 16 in
    let p : ℕ = power i h in
    let none : i + 0 ≡ i = omega arith in
    let two : i + 2 ≡ i + 1 + 1 = omega arith in
    let three : i + 3 ≡ i + 1 + 1 + 1 = omega arith in
    let end : i + 1 + 1 + 1 + 1 ≡ i + 4 = omega arith in
    let q : times_x p ≡ power (i + 1) h = power_next i h in
    let r : times_x (times_x p) ≡ power (i + 1 + 1) h = ap (λ (x : ℕ). times_x x) q ∙ power_next (i + 1) h in
    let s : times_x (times_x (times_x p)) ≡ power (i + 1 + 1 + 1) h = ap (λ (x : ℕ). times_x x) r ∙ power_next (i + 1 + 1) h in
    let t0 : bit_at v 0 * p ≡ bit_at a i * p = ap (λ (x : ℕ). x * p) (bit_of_group a i 0 (omega arith) ∙ ap (bit_at a) none) in
    let t1 : bit_at v 1 * times_x p ≡ bit_at a (i + 1) * power (i + 1) h = (λ k. bit_of_group a i 1 (omega arith) k * q k) in
    let t2 : bit_at v 2 * times_x (times_x p) ≡ bit_at a (i + 1 + 1) * power (i + 1 + 1) h =
    (λ k. (bit_of_group a i 2 (omega arith) ∙ ap (bit_at a) two) k * r k) in
    let t3 : bit_at v 3 * times_x (times_x (times_x p)) ≡ bit_at a (i + 1 + 1 + 1) * power (i + 1 + 1 + 1) h =
    (λ k. (bit_of_group a i 3 (omega arith) ∙ ap (bit_at a) three) k * s k) in
    let m0 = term_more i a h (omega arith) fits in
    let m1 = term_more (i + 1) a h (omega arith) fits ∙ ap (λ (x : ℕ). bit_xor x (bit_at a (i + 1) * power (i + 1) h)) m0 in
    let m2 = term_more (i + 1 + 1) a h (omega arith) fits ∙ ap (λ (x : ℕ). bit_xor x (bit_at a (i + 1 + 1) * power (i + 1 + 1) h)) m1 in
    let m3 = term_more (i + 1 + 1 + 1) a h (omega arith) fits ∙ ap (λ (x : ℕ). bit_xor x (bit_at a (i + 1 + 1 + 1) * power (i + 1 + 1 + 1) h)) m2 in
    (λ k. bit_xor (partial_product i a h) (bit_xor (bit_xor (t0 k) (t1 k)) (bit_xor (t2 k) (t3 k))))
    ∙ sym (four_sum (partial_product i a h) (bit_at a i * p) (bit_at a (i + 1) * power (i + 1) h) (bit_at a (i + 1 + 1) * power (i + 1 + 1) h) (bit_at a (i + 1 + 1 + 1) * power (i + 1 + 1 + 1) h))
    ∙ sym m3
    ∙ ap (λ (k : ℕ). partial_product k a h) end

-- ---- the bytes of a factor

pub low_first : (m i n k : ℕ) → k < m → slice_index (bytes_low_first i m n) k ≡ byte_at (i + k) n
low_first zero i n k lt = absurd (omega arith)
low_first (suc m) i n zero lt =
    let e : i ≡ i + 0 = omega arith in
    ap (λ (j : ℕ). byte_at j n) e
low_first (suc m) i n (suc k) lt =
    let e : suc i + k ≡ i + suc k = omega arith in
    low_first m (suc i) n k (omega arith) ∙ ap (λ (j : ℕ). byte_at j n) e

pub byte_is : (i n : ℕ) → byte_at i n ≡ n / 2 ^ (8 * i) % 256
byte_is zero n = omega arith
byte_is (suc i) n = ap (λ (x : ℕ). n / x % 256) (pow_of_bytes (suc i))

pub byte_of_factor : (a i : ℕ) → i < 16 → slice_index (to_le_bytes w128 a) i ≡ a / 2 ^ (8 * i) % 256
byte_of_factor a i lt =
    let e : 0 + i ≡ i = omega arith in
    low_first 16 0 a i lt ∙ ap (λ (j : ℕ). byte_at j a) e ∙ byte_is i a

pub low_group : (a i byte : ℕ) → byte ≡ a / 2 ^ (8 * i) % 256 → byte % 16 ≡ a / 2 ^ (8 * i) % 16
low_group a i byte e = omega arith

pub high_group : (a i byte : ℕ) → byte ≡ a / 2 ^ (8 * i) % 256 → byte / 16 ≡ a / 2 ^ (8 * i + 4) % 16
high_group a i byte e =
    let x : ℕ = a / 2 ^ (8 * i) in
    let half : byte / 16 ≡ x / 16 % 16 = omega arith in
    half ∙ ap (λ (y : ℕ). y % 16) (shr-shr a (8 * i) 4)
