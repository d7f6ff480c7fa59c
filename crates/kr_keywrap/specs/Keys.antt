-- Wrapping under a key-encryption key, and keys by their ids.
use Rattle.std.specs.Prelude.{ℕ, ◌==◌, if◌then◌else◌, List, length, codes, Option, Some, None, Result}
use Rattle.std.specs.List.{range_with_len}
use Rattle.std.specs.Option.{option_and_then}
use Rattle.std.specs.Result.{result_ok}
use Rattle.std.specs.Str.{bytes_eq}
use Rattle.kr_aes.specs.declared.Rounds.{Rounds}
use Rattle.kr_aes.specs.declared.Rounds.TheVariants.{Ten, Twelve, Fourteen}
use Rattle.kr_aes.specs.Cipher.{cipher}
use Rattle.kr_aes.specs.InverseCipher.{inverse_cipher}
use Rattle.kr_aes.specs.KeyExpansion.{padded_schedule}
use Rattle.kr_keywrap.specs.KeyWrap.{key_unwrap, key_wrap}
use Rattle.kr_keywrap.specs.declared.key_wrap.WrapNo.{WrapNo}

-- the rounds of a key of 16, 24 or 32 bytes (FIPS 197 section 5)
abbrev pub rounds_of : List ℕ → Rounds
rounds_of kek = if length kek == 16 then Ten else if length kek == 24 then Twelve else Fourteen

-- what plain bytes are wrapped into under a key
abbrev pub wrapped_under : List ℕ → List ℕ → List ℕ
wrapped_under kek plain = key_wrap (cipher (padded_schedule kek) (rounds_of kek)) plain

-- what a body is unwrapped to under a key
abbrev pub unwrapped_under : List ℕ → List ℕ → Result (List ℕ) WrapNo
unwrapped_under kek body = key_unwrap (inverse_cipher (padded_schedule kek) (rounds_of kek)) body

-- what a ring means: keys by their ids
abbrev pub Keys : Type 0
Keys = List ℕ → Option (List ℕ)

-- what a source opens to under the key of this id: nothing where there is no such key, or where
-- the source isn't wrapped under it
abbrev pub opened_by : Keys → List ℕ → List ℕ → Option (List ℕ)
opened_by keys key_id source =
    option_and_then (λ kek. result_ok (unwrapped_under kek source)) (keys key_id)

-- the bytes 00 to 1f and 20 to 3f under two ids
abbrev pub example_keys : Keys
example_keys key_id =
    if bytes_eq key_id (codes "k1") then Some (range_with_len 0 32)
    else if bytes_eq key_id (codes "k2") then Some (range_with_len 32 32)
    else None
