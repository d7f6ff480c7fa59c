-- Words of hexadecimal digits stand for the bytes that they were written for.
use Rattle.std.proofs.Common.{◌≡◌, ◌≢◌, ◌<◌, ℕ, ◌*◌, List, [], ◌∷◌, length, Ok, refl, sym, ◌∙◌, ap, inl, inr, arith}
use Rattle.hex.specs.Hex.{IsBytes, decode_sized, encode_lower, encode_with}
use Rattle.hex.proofs.HexLemmas.{decode_of-encode_lower, decode_of-ok, decode_sized-ok, decode_sized-twice}
use Rattle.test_vectors.specs.Words.{StandsFor, word_of}

some_digits : (byte : ℕ) (rest : List ℕ) → encode_lower (byte ∷ rest) ≢ []
unfolding encode_with
some_digits byte rest e = cc

pub stands_for-word_of : (bytes : List ℕ) → IsBytes bytes → StandsFor (word_of bytes) bytes
stands_for-word_of [] h = inl (refl, refl)
stands_for-word_of (byte ∷ rest) h = inr (some_digits byte rest, decode_of-encode_lower (byte ∷ rest) h)

-- ---- words for so many bytes

pub stands_for-sized : (word bytes : List ℕ) (n : ℕ) → 0 < n → decode_sized word n ≡ Ok bytes
    → StandsFor word bytes
stands_for-sized word bytes n some h =
    let twice = decode_sized-ok word n bytes h in
    inr (
      λ e.
          let none : length word ≡ 0 = ap length e in
          omega (arith, twice, none, some),
      sym (decode_sized-twice word n twice) ∙ h,
    )

pub sized-stands_for : (word bytes : List ℕ) (n : ℕ) → 0 < n → length bytes ≡ n → StandsFor word bytes
    → decode_sized word n ≡ Ok bytes
sized-stands_for word bytes n some size (inl (dash, empty)) =
    let none : length bytes ≡ 0 = ap length empty in
    absurd (omega (arith, none, size, some))
sized-stands_for word bytes n some size (inr (digits, h)) =
    let twice = (decode_of-ok word bytes h).2 in
    decode_sized-twice word n (twice ∙ ap (λ m. 2 * m) size) ∙ h
