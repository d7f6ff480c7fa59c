-- The key expansion (FIPS 197, as updated in 2023, section 5.2). A word of four bytes is a number
-- below 2 ^ 32 whose first byte is the highest (3.5).
use Rattle.std.specs.Prelude.{◌≡◌, ℕ, zero, suc, ◌+◌, ◌-◌, ◌*◌, ◌/◌, ◌%◌, ◌<◌, ◌==◌, ◌&&◌, if◌then◌else◌, nat_lt, List, [], ◌∷◌, ◌++◌, All, length, replicate, bit_xor, slice_index, ◌⊎◌}
use Rattle.std.specs.Int.{w32, from_be_bytes}
use Rattle.kr_aes.specs.declared.Rounds.{Rounds}
use Rattle.kr_aes.specs.Field.{product}
use Rattle.kr_aes.specs.Cipher.{round_count, sbox, word_byte}

-- the word with these bytes
abbrev pub packed_word : (ℕ → ℕ) → ℕ
packed_word byte = from_be_bytes w32 (byte 0 ∷ byte 1 ∷ byte 2 ∷ byte 3 ∷ [])

abbrev pub sub_word : ℕ → ℕ
sub_word word = packed_word (λ r. sbox (word_byte word r))

-- each byte goes one place to the left, in a ring
abbrev pub rot_word : ℕ → ℕ
rot_word word = packed_word (λ r. word_byte word ((r + 1) % 4))

-- x to the power n in the field
unfoldable pub power_of_x : ℕ → ℕ
power_of_x zero = 1
power_of_x (suc n) = product 2 (power_of_x n)

-- Rcon of i: the bytes x to the power i - 1, 0, 0, 0
abbrev pub round_constant : ℕ → ℕ
round_constant i = from_be_bytes w32 (power_of_x (i - 1) ∷ 0 ∷ 0 ∷ 0 ∷ [])

-- what is added to word i - Nk to make word i, where Nk is the key's length in words
unfoldable pub addend : ℕ → ℕ → ℕ → ℕ
addend nk i previous =
    if i % nk == 0 then bit_xor (sub_word (rot_word previous)) (round_constant (i / nk))
    else if nat_lt 6 nk && i % nk == 4 then sub_word previous
    else previous

-- word i from the words before it: the first Nk are the key's own
unfoldable pub next_word : List ℕ → List ℕ → ℕ → ℕ
next_word key words i =
    let nk = length key / 4 in
    if nat_lt i nk then packed_word (λ r. slice_index key (4 * i + r))
    else bit_xor (slice_index words (i - nk)) (addend nk i (slice_index words (i - 1)))

-- the first n words of the expansion
unfoldable pub first_words : List ℕ → ℕ → List ℕ
first_words key zero = []
first_words key (suc n) = first_words key n ++ next_word key (first_words key n) n ∷ []

-- the 4 (Nr + 1) words of a key, where Nr is Nk + 6
unfoldable pub key_schedule : List ℕ → List ℕ
key_schedule key = first_words key (4 * (length key / 4 + 7))

-- the same with zeros behind them, 60 words in all
abbrev pub padded_schedule : List ℕ → List ℕ
padded_schedule key = key_schedule key ++ replicate (60 - length (key_schedule key)) 0

-- how many bytes a key has
abbrev pub IsKeyLength : ℕ → Type 0
IsKeyLength size = (size ≡ 16) ⊎ (size ≡ 24) ⊎ (size ≡ 32)

-- a key of so many bytes has these rounds: Nr is Nk + 6 (section 5)
abbrev pub IsKeyOf : ℕ → Rounds → Type 0
IsKeyOf size rounds = size ≡ 4 * (round_count rounds - 6)

-- the words are the expansion of some key that has these rounds
pub record IsSchedule (words : List ℕ) (rounds : Rounds) : Type 0 where
  pub key : List ℕ
  pub bytes : All (λ byte. byte < 256) key
  pub size : IsKeyOf (length key) rounds
  pub expansion : words ≡ padded_schedule key

-- ---- a law for a reader: each word of a key's schedule is `next_word` of the words before it

abbrev pub EachWordFollows : Type 0
EachWordFollows = (key : List ℕ) (i : ℕ) → IsKeyLength (length key) → i < length (key_schedule key)
    → slice_index (key_schedule key) i ≡ next_word key (key_schedule key) i
