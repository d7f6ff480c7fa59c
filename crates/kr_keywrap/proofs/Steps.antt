-- A step of unwrapping undoes the step of wrapping, and the other way round.
use Rattle.std.proofs.Common.{◌≡◌, ℕ, ◌+◌, ◌-◌, ◌*◌, ◌/◌, ◌%◌, ◌^◌, ◌<◌, ◌≤◌, List, ◌++◌, length, take, drop, bit_xor, ap, ◌∙◌, arith, mod-lt}
use Rattle.std.specs.Int.{w64, from_be_bytes, to_be_bytes}
use Rattle.std.specs.Int.Bits.{xor_self, xor_zero_r}
use lib.Bits.{xor_assoc}
use Rattle.std.proofs.lemmas.List.{length-drop, length-take-le, take-append-drop}
use Rattle.std.proofs.lemmas.List.Elements.{All-append, All-drop, All-take}
use Rattle.std.proofs.lemmas.Nat.{xor_lt}
use Rattle.kr_aes.specs.Cipher.{IsBlock}
use Rattle.kr_base.specs.Tapes.{with_bytes_at}
use Rattle.kr_keywrap.specs.KeyWrap.{Registers, block_place, unwrap_step, wrap_step}
use Rattle.kr_keywrap.proofs.Halves.{AreBytes, IsBlock-joined, bytes_of_number, first_half, number-lt, number_of_bytes, second_half}
use Rattle.kr_keywrap.proofs.Pieces.{length-piece, length-with_bytes_at, piece_back, piece_put}

-- the second of two functions of blocks undoes the first
pub record Undoes (there back : List ℕ → List ℕ) : Type 0 where
  pub block : (b : List ℕ) → IsBlock b → IsBlock (there b)
  pub undone : (b : List ℕ) → IsBlock b → back (there b) ≡ b

-- a number of 64 bits and some bytes
pub record IsSound (s : Registers) : Type 0 where
  pub number : s.a < 2 ^ 64
  pub some : 8 ≤ length s.r
  pub bytes : AreBytes s.r

-- the same number of sound blocks
pub record Keeps (s t : Registers) : Type 0 where
  pub sound : IsSound t
  pub size : length t.r ≡ length s.r

place_fits : (size t : ℕ) → 8 ≤ size → 8 * (t % (size / 8)) + 8 ≤ size
place_fits size t some =
    let below : t % (size / 8) < size / 8 = mod-lt t (omega arith) in
    omega arith

same_place : (r q : List ℕ) (t : ℕ) → length q ≡ length r → block_place q t ≡ block_place r t
same_place r q t e = ap (λ (n : ℕ). 8 * ((t - 1) % (n / 8))) e

xor_twice : (a b : ℕ) → bit_xor (bit_xor a b) b ≡ a
xor_twice a b = xor_assoc a b b ∙ ap (bit_xor a) (xor_self b) ∙ xor_zero_r a

-- ---- an exchange of a number and a piece for the halves of a block

module _ (there back : List ℕ → List ℕ) (undoes : Undoes there back) (x : ℕ) (r : List ℕ) (place : ℕ)
    (number : x < 2 ^ 64) (fits : place + 8 ≤ length r) (bytes : AreBytes r) where
  abbrev piece : List ℕ
  piece = take 8 (drop place r)

  abbrev joined : List ℕ
  joined = to_be_bytes w64 x ++ piece

  bytes_of_piece : AreBytes piece
  bytes_of_piece = All-take (λ byte. byte < 256) 8 (drop place r) (All-drop (λ byte. byte < 256) place r bytes)

  block : IsBlock joined
  block = IsBlock-joined x piece (length-piece r place fits) bytes_of_piece

  after : IsBlock (there joined)
  after = undoes.block joined block

  length_first : length (take 8 (there joined)) ≡ 8
  length_first = length-take-le 8 (there joined) (omega (arith, after.size))

  pub length_second : length (drop 8 (there joined)) ≡ 8
  length_second = omega (arith, length-drop 8 (there joined), after.size)

  bytes_first : AreBytes (take 8 (there joined))
  bytes_first = All-take (λ byte. byte < 256) 8 (there joined) after.bytes

  pub number_first : from_be_bytes w64 (take 8 (there joined)) < 2 ^ 64
  number_first = number-lt (take 8 (there joined)) bytes_first

  abbrev put : List ℕ
  put = with_bytes_at r place (drop 8 (there joined))

  pub length_put : length put ≡ length r
  length_put = length-with_bytes_at r place (drop 8 (there joined)) fits length_second

  pub bytes_put : AreBytes put
  bytes_put =
      All-append (λ byte. byte < 256) (take place r) (drop 8 (there joined) ++ drop (place + length (drop 8 (there joined))) r)
      (All-take (λ byte. byte < 256) place r bytes)
      (All-append (λ byte. byte < 256) (drop 8 (there joined)) (drop (place + length (drop 8 (there joined))) r)
      (All-drop (λ byte. byte < 256) 8 (there joined) after.bytes) (All-drop (λ byte. byte < 256) (place + length (drop 8 (there joined))) r bytes))

  -- the block that comes back
  pub came_back : back (to_be_bytes w64 (from_be_bytes w64 (take 8 (there joined))) ++ take 8 (drop place put)) ≡ joined
  came_back =
      ap back ((λ i. bytes_of_number (take 8 (there joined)) length_first bytes_first i ++ piece_put r place (drop 8 (there joined)) fits length_second i)
      ∙ take-append-drop 8 (there joined))
      ∙ undoes.undone joined block

  pub number_back : from_be_bytes w64 (take 8 joined) ≡ x
  number_back = ap (from_be_bytes w64) (first_half x piece) ∙ number_of_bytes x number

  pub put_back : with_bytes_at put place (drop 8 joined) ≡ r
  put_back =
      ap (λ (l : List ℕ). with_bytes_at put place l) (second_half x piece)
      ∙ piece_back r place (drop 8 (there joined)) fits length_second

-- ---- the steps

-- what a step makes of the block that it got
abbrev set_by : ℕ → ℕ → List ℕ → List ℕ → Registers
set_by t place r b = record { a = bit_xor (from_be_bytes w64 (take 8 b)) t; r = with_bytes_at r place (drop 8 b) }

abbrev set_back : ℕ → List ℕ → List ℕ → Registers
set_back place r b = record { a = from_be_bytes w64 (take 8 b); r = with_bytes_at r place (drop 8 b) }

fits_of : (s : Registers) (t : ℕ) → IsSound s → block_place s.r t + 8 ≤ length s.r
fits_of s t is = place_fits (length s.r) (t - 1) is.some

pub wrap_step-kept : (there back : List ℕ → List ℕ) → Undoes there back → (t : ℕ) (s : Registers) → IsSound s → t < 2 ^ 64
    → Keeps s (wrap_step there t s)
unfolding wrap_step
wrap_step-kept there back undoes t s is lt =
    let place : ℕ = block_place s.r t in
    let fits : place + 8 ≤ length s.r = fits_of s t is in
    let size = length_put there back undoes s.a s.r place is.number fits is.bytes in record {
      sound = record {
        number = xor_lt 64 _ t (number_first there back undoes s.a s.r place is.number fits is.bytes) lt;
        some = omega (arith, size, is.some);
        bytes = bytes_put there back undoes s.a s.r place is.number fits is.bytes;
      };
      size = size;
    }

pub unwrap_step-kept : (there back : List ℕ → List ℕ) → Undoes there back → (t : ℕ) (s : Registers) → IsSound s → t < 2 ^ 64
    → Keeps s (unwrap_step there t s)
unfolding unwrap_step
unwrap_step-kept there back undoes t s is lt =
    let place : ℕ = block_place s.r t in
    let fits : place + 8 ≤ length s.r = fits_of s t is in
    let number : bit_xor s.a t < 2 ^ 64 = xor_lt 64 s.a t is.number lt in
    let size = length_put there back undoes (bit_xor s.a t) s.r place number fits is.bytes in record {
      sound = record {
        number = number_first there back undoes (bit_xor s.a t) s.r place number fits is.bytes;
        some = omega (arith, size, is.some);
        bytes = bytes_put there back undoes (bit_xor s.a t) s.r place number fits is.bytes;
      };
      size = size;
    }

pub unwrap_step-wrap_step : (there back : List ℕ → List ℕ) → Undoes there back → (t : ℕ) (s : Registers) → IsSound s → t < 2 ^ 64
    → unwrap_step back t (wrap_step there t s) ≡ s
unfolding wrap_step unwrap_step
unwrap_step-wrap_step there back undoes t s is lt =
    let place : ℕ = block_place s.r t in
    let fits : place + 8 ≤ length s.r = fits_of s t is in
    let b : List ℕ = there (to_be_bytes w64 s.a ++ take 8 (drop place s.r)) in
    let x : ℕ = from_be_bytes w64 (take 8 b) in
    let r : List ℕ = with_bytes_at s.r place (drop 8 b) in
    let size : length r ≡ length s.r = length_put there back undoes s.a s.r place is.number fits is.bytes in
    ap (λ (p : ℕ). set_back p r (back (to_be_bytes w64 (bit_xor (bit_xor x t) t) ++ take 8 (drop p r)))) (same_place s.r r t size)
    ∙ ap (λ (n : ℕ). set_back place r (back (to_be_bytes w64 n ++ take 8 (drop place r)))) (xor_twice x t)
    ∙ ap (set_back place r) (came_back there back undoes s.a s.r place is.number fits is.bytes)
    ∙ (λ i. record {
      a = number_back there back undoes s.a s.r place is.number fits is.bytes i;
      r = put_back there back undoes s.a s.r place is.number fits is.bytes i;
    })

pub wrap_step-unwrap_step : (there back : List ℕ → List ℕ) → Undoes there back → (t : ℕ) (s : Registers) → IsSound s → t < 2 ^ 64
    → wrap_step back t (unwrap_step there t s) ≡ s
unfolding wrap_step unwrap_step
wrap_step-unwrap_step there back undoes t s is lt =
    let place : ℕ = block_place s.r t in
    let fits : place + 8 ≤ length s.r = fits_of s t is in
    let y : ℕ = bit_xor s.a t in
    let number : y < 2 ^ 64 = xor_lt 64 s.a t is.number lt in
    let b : List ℕ = there (to_be_bytes w64 y ++ take 8 (drop place s.r)) in
    let x : ℕ = from_be_bytes w64 (take 8 b) in
    let r : List ℕ = with_bytes_at s.r place (drop 8 b) in
    let size : length r ≡ length s.r = length_put there back undoes y s.r place number fits is.bytes in
    ap (λ (p : ℕ). set_by t p r (back (to_be_bytes w64 x ++ take 8 (drop p r)))) (same_place s.r r t size)
    ∙ ap (set_by t place r) (came_back there back undoes y s.r place number fits is.bytes)
    ∙ (λ i. record {
      a = (ap (λ (n : ℕ). bit_xor n t) (number_back there back undoes y s.r place number fits is.bytes) ∙ xor_twice s.a t) i;
      r = put_back there back undoes y s.r place number fits is.bytes i;
    })
