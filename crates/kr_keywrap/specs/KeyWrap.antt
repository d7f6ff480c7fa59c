-- The key wrap (RFC 3394 section 2.2) in its form by an index, with a block cipher and its inverse
-- that are given as functions of blocks of 16 bytes.
use Rattle.std.specs.Prelude.{◌≡◌, ℕ, zero, suc, ◌-◌, ◌*◌, ◌/◌, ◌%◌, ◌<◌, ◌≤◌, ◌==◌, ◌&&◌, if◌then◌else◌, nat_le, Bool, List, ◌++◌, All, length, take, drop, bit_xor, Result, Ok, Err}
use Rattle.std.specs.Int.{w64, from_be_bytes, to_be_bytes}
use Rattle.kr_aes.specs.declared.Rounds.{Rounds}
use Rattle.kr_aes.specs.Cipher.{cipher}
use Rattle.kr_aes.specs.InverseCipher.{inverse_cipher}
use Rattle.kr_base.specs.Tapes.{with_bytes_at}
use Rattle.kr_keywrap.specs.declared.key_wrap.WrapNo.{WrapNo}
use Rattle.kr_keywrap.specs.declared.key_wrap.WrapNo.TheVariants.{Length, Check}

-- what is wrapped has 2 to 127 blocks of eight bytes: RFC 3394 needs two of them, and a wrapped
-- source has at most 1,024 bytes
abbrev pub IsWrappable : ℕ → Type 0
IsWrappable size = (size % 8 ≡ 0) × (16 ≤ size) × (size ≤ 1016)

abbrev pub is_wrappable : ℕ → Bool
is_wrappable size = size % 8 == 0 && (nat_le 16 size && nat_le size 1016)

-- the register A, a number of 64 bits whose first byte is the highest, and the blocks R of eight
-- bytes each, one behind another
pub record Registers : Type 0 where
  pub a : ℕ
  pub r : List ℕ

-- the initial value of A (2.2.3.1)
abbrev pub initial_value : ℕ
initial_value = 0xA6A6A6A6A6A6A6A6

-- all steps: n of them, six times
abbrev pub steps_of : List ℕ → ℕ
steps_of r = 6 * (length r / 8)

-- where the block of step t stands: the steps, from 1, take the n blocks in turn
abbrev pub block_place : List ℕ → ℕ → ℕ
block_place r t = 8 * ((t - 1) % (length r / 8))

-- step t of wrapping (2.2.1): B is the cipher of A and the block. A becomes the first half of B,
-- xor t, and the block its second half.
unfoldable pub wrap_step : (List ℕ → List ℕ) → ℕ → Registers → Registers
wrap_step encipher t s =
    let place = block_place s.r t in
    let b = encipher (to_be_bytes w64 s.a ++ take 8 (drop place s.r)) in record {
      a = bit_xor (from_be_bytes w64 (take 8 b)) t;
      r = with_bytes_at s.r place (drop 8 b);
    }

-- step t of unwrapping (2.2.2): B is the inverse cipher of A xor t and the block. A becomes the
-- first half of B, and the block its second half.
unfoldable pub unwrap_step : (List ℕ → List ℕ) → ℕ → Registers → Registers
unwrap_step decipher t s =
    let place = block_place s.r t in
    let b = decipher (to_be_bytes w64 (bit_xor s.a t) ++ take 8 (drop place s.r)) in record {
      a = from_be_bytes w64 (take 8 b);
      r = with_bytes_at s.r place (drop 8 b);
    }

-- the steps of wrapping from 1 to t
unfoldable pub wrapped_steps : (List ℕ → List ℕ) → Registers → ℕ → Registers
wrapped_steps encipher s zero = s
wrapped_steps encipher s (suc t) = wrap_step encipher (suc t) (wrapped_steps encipher s t)

-- the steps of unwrapping from t back to 1
unfoldable pub unwrapped_steps : (List ℕ → List ℕ) → Registers → ℕ → Registers
unwrapped_steps decipher s zero = s
unwrapped_steps decipher s (suc t) = unwrapped_steps decipher (unwrap_step decipher (suc t) s) t

-- what plain bytes are wrapped into: A and the blocks after all steps
unfoldable pub key_wrap : (List ℕ → List ℕ) → List ℕ → List ℕ
key_wrap encipher plain =
    let end = wrapped_steps encipher (record { a = initial_value; r = plain }) (steps_of plain) in
    to_be_bytes w64 end.a ++ end.r

-- A and the blocks of a wrapped body before all steps
unfoldable pub before_steps : (List ℕ → List ℕ) → List ℕ → Registers
before_steps decipher body = unwrapped_steps decipher
    (record { a = from_be_bytes w64 (take 8 body); r = drop 8 body }) (steps_of (drop 8 body))

-- the plain bytes of a body, or why there are none: its length is none of a wrapped one, or A isn't
-- the initial value (2.2.3)
unfoldable pub key_unwrap : (List ℕ → List ℕ) → List ℕ → Result (List ℕ) WrapNo
key_unwrap decipher body =
    let start = before_steps decipher body in
    if is_wrappable (length body - 8)
    then if start.a == initial_value then Ok start.r else Err Check
    else Err Length

-- ---- laws for callers

-- bytes that may be wrapped
pub record IsKeyData (plain : List ℕ) : Type 0 where
  pub size : IsWrappable (length plain)
  pub bytes : All (λ byte. byte < 256) plain

abbrev pub UnwrapGivesWrapped : Type 0
UnwrapGivesWrapped = (words : List ℕ) (rounds : Rounds) (plain : List ℕ) → IsKeyData plain
    → key_unwrap (inverse_cipher words rounds) (key_wrap (cipher words rounds) plain) ≡ Ok plain

abbrev pub UnwrapGivesNothingElse : Type 0
UnwrapGivesNothingElse = (words : List ℕ) (rounds : Rounds) (body plain : List ℕ)
    → All (λ byte. byte < 256) body
    → key_unwrap (inverse_cipher words rounds) body ≡ Ok plain
    → IsKeyData plain × (body ≡ key_wrap (cipher words rounds) plain)
