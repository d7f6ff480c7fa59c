-- Galois/counter mode (SP 800-38D, sections 6.5 and 7) for nonces of 12 bytes and tags of 16, with
-- a block cipher that is given as a function of blocks.
use Rattle.std.specs.Prelude.{◌≡◌, ◌↔◌, ℕ, ◌+◌, ◌-◌, ◌*◌, ◌%◌, ◌^◌, if◌then◌else◌, nat_lt, List, ◌++◌, length, replicate, take, drop, bytes_eq, ok_or, Option, Some, None, IsSome, Result, Ok, Err}
use Rattle.std.specs.Int.{w32, w64, div_ceil, next_multiple_of, to_be_bytes}
use Rattle.std.specs.List.{flat_map, range_with_len}
use Rattle.kr_aes.specs.declared.Rounds.{Rounds}
use Rattle.kr_aes.specs.Cipher.{cipher}
use Rattle.kr_modes.specs.declared.ModeNo.{ModeNo}
use Rattle.kr_modes.specs.declared.ModeNo.TheVariants.{Short, BadTag}
use Rattle.kr_modes.specs.Blocks.{xor}
use Rattle.kr_modes.specs.Ghash.{ghash}

-- J0 is the nonce and the bytes 0, 0, 0 and 1. Here its last four bytes are counted up n times, as
-- a number modulo 2^32 (6.2 and 7.1, step 2)
unfoldable pub counter_block : List ℕ → ℕ → List ℕ
counter_block nonce n = nonce ++ to_be_bytes w32 ((1 + n) % 2 ^ 32)

-- the ciphers of the n blocks that follow J0
unfoldable pub key_stream : (List ℕ → List ℕ) → List ℕ → ℕ → List ℕ
key_stream encipher nonce n = flat_map (λ i. encipher (counter_block nonce i)) (range_with_len 1 n)

-- GCTR from the block that follows J0: the bytes xor as many of the key stream (6.5)
unfoldable pub gctr : (List ℕ → List ℕ) → List ℕ → List ℕ → List ℕ
gctr encipher nonce bytes = xor bytes (key_stream encipher nonce (div_ceil (length bytes) 16))

-- the bytes and zeros behind them, up to whole blocks (7.1, step 4)
unfoldable pub zero_padded : List ℕ → List ℕ
zero_padded bytes = bytes ++ replicate (next_multiple_of (length bytes) 16 - length bytes) 0

-- the tag (7.1, steps 5 and 6): the lengths are counted in bits, and the hash subkey is the cipher
-- of the zero block
unfoldable pub gcm_tag : (List ℕ → List ℕ) → List ℕ → List ℕ → List ℕ → List ℕ
gcm_tag encipher nonce aad ciphertext =
    xor (ghash (encipher (replicate 16 0))
    (zero_padded aad ++ zero_padded ciphertext
    ++ (to_be_bytes w64 (8 * length aad) ++ to_be_bytes w64 (8 * length ciphertext))))
    (encipher (counter_block nonce 0))

-- authenticated encryption (7.1): the ciphertext and the tag
unfoldable pub gcm : (List ℕ → List ℕ) → List ℕ → List ℕ → List ℕ → List ℕ
gcm encipher nonce aad plain =
    let ciphertext = gctr encipher nonce plain in
    ciphertext ++ gcm_tag encipher nonce aad ciphertext

-- authenticated decryption (7.2): the plain bytes where the last 16 bytes are the tag of those
-- before them, and else nothing
unfoldable pub ungcm : (List ℕ → List ℕ) → List ℕ → List ℕ → List ℕ → Option (List ℕ)
ungcm encipher nonce aad body =
    let size = length body - 16 in
    if bytes_eq (drop size body) (gcm_tag encipher nonce aad (take size body))
    then Some (gctr encipher nonce (take size body)) else None

-- the same, or the first cause of a refusal
unfoldable pub gcm_opened : (List ℕ → List ℕ) → List ℕ → List ℕ → List ℕ → Result (List ℕ) ModeNo
gcm_opened encipher nonce aad body =
    if nat_lt (length body) 16 then Err Short
    else ok_or (ungcm encipher nonce aad body) BadTag

-- ---- laws for callers

abbrev pub GcmOpensSealed : Type 0
GcmOpensSealed = (words : List ℕ) (rounds : Rounds) (nonce aad plain : List ℕ)
    → gcm_opened (cipher words rounds) nonce aad (gcm (cipher words rounds) nonce aad plain)
    ≡ Ok plain

-- a sealed value is opened under other associated data exactly where both have one tag
abbrev pub OpensOnlyUnderOneTag : Type 0
OpensOnlyUnderOneTag = (words : List ℕ) (rounds : Rounds) (nonce aad other plain : List ℕ)
    → let encipher = cipher words rounds in
    let ciphertext = gctr encipher nonce plain in
    IsSome (ungcm encipher nonce other (gcm encipher nonce aad plain))
    ↔ (gcm_tag encipher nonce other ciphertext ≡ gcm_tag encipher nonce aad ciphertext)
