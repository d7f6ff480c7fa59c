-- Eight bytes and the number of 64 bits that they are; a block of a number and eight bytes.
use Rattle.std.proofs.Common.{◌≡◌, ℕ, zero, suc, ◌/◌, ◌^◌, ◌<◌, List, ◌++◌, All, length, take, drop, get_or, refl, arith, inl, inr, mod-lt}
use Rattle.std.specs.Int.{w64, byte_at, bytes_high_first, from_be_bytes, to_be_bytes}
use Rattle.std.proofs.lemmas.Bool.{cases_lt}
use Rattle.std.proofs.lemmas.List.{drop_at, get_or_past, length-append, take_at}
use Rattle.std.proofs.lemmas.List.Elements.{All-append, All-cons, All-get_or, All-nil}
use Rattle.std.proofs.lemmas.Nat.{be_bytes_8, from_be_bytes-to_be_bytes_8}
use Rattle.kr_aes.specs.Cipher.{IsBlock}

-- each is a byte
abbrev pub AreBytes : List ℕ → Type 0
AreBytes bytes = All (λ byte. byte < 256) bytes

pub get_or-byte : (b : List ℕ) → AreBytes b → (i : ℕ) → get_or b i 0 < 256
get_or-byte b all i = elim (cases_lt i (length b)) [
  | inl lt ↦ All-get_or (λ byte. byte < 256) b i 0 lt all
  | inr ge ↦ rw (get_or_past b i 0 ge) (omega arith)
]

pub bytes_of_number : (b : List ℕ) → length b ≡ 8 → AreBytes b → to_be_bytes w64 (from_be_bytes w64 b) ≡ b
bytes_of_number b size all = be_bytes_8 b (from_be_bytes w64 b) size (get_or-byte b all) refl

pub number_of_bytes : (n : ℕ) → n < 2 ^ 64 → from_be_bytes w64 (to_be_bytes w64 n) ≡ n
number_of_bytes n fits = from_be_bytes-to_be_bytes_8 n fits

fits_64 : (b : List ℕ) → ((i : ℕ) → get_or b i 0 < 256) → from_be_bytes w64 b < 2 ^ 64
fits_64 b k = omega (arith, k 0, k 1, k 2, k 3, k 4, k 5, k 6, k 7)

pub number-lt : (b : List ℕ) → AreBytes b → from_be_bytes w64 b < 2 ^ 64
number-lt b all = fits_64 b (get_or-byte b all)

pub length-to_be_bytes : (n : ℕ) → length (to_be_bytes w64 n) ≡ 8
length-to_be_bytes n = refl

byte_at-lt : (i n : ℕ) → byte_at i n < 256
byte_at-lt zero n = mod-lt n (omega arith)
byte_at-lt (suc i) n = mod-lt (n / 256 ^ suc i) (omega arith)

AreBytes-bytes_high_first : (k n : ℕ) → AreBytes (bytes_high_first k n)
AreBytes-bytes_high_first zero n = All-nil (λ byte. byte < 256)
AreBytes-bytes_high_first (suc k) n = All-cons (λ byte. byte < 256) (byte_at k n) (bytes_high_first k n) (byte_at-lt k n) (AreBytes-bytes_high_first k n)

pub AreBytes-to_be_bytes : (n : ℕ) → AreBytes (to_be_bytes w64 n)
AreBytes-to_be_bytes n = AreBytes-bytes_high_first 8 n

-- ---- a block of a number and eight bytes

pub first_half : (n : ℕ) (half : List ℕ) → take 8 (to_be_bytes w64 n ++ half) ≡ to_be_bytes w64 n
first_half n half = take_at (to_be_bytes w64 n) half 8 (length-to_be_bytes n)

pub second_half : (n : ℕ) (half : List ℕ) → drop 8 (to_be_bytes w64 n ++ half) ≡ half
second_half n half = drop_at (to_be_bytes w64 n) half 8 (length-to_be_bytes n)

pub IsBlock-joined : (n : ℕ) (half : List ℕ) → length half ≡ 8 → AreBytes half → IsBlock (to_be_bytes w64 n ++ half)
IsBlock-joined n half size all = record {
  size = omega (arith, length-append (to_be_bytes w64 n) half, length-to_be_bytes n, size);
  bytes = All-append (λ byte. byte < 256) (to_be_bytes w64 n) half (AreBytes-to_be_bytes n) all;
}
