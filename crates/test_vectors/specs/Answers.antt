-- What a case is to come to, by the definitions of the crates that it calls.
use Rattle.std.specs.Prelude.{◌≡◌, ℕ, List, length, Result, Ok, Err}
use Rattle.std.specs.Int.{w16, from_be_bytes}
use Rattle.kr_aes.specs.declared.Rounds.{Rounds}
use Rattle.kr_aes.specs.Cipher.{cipher}
use Rattle.kr_aes.specs.InverseCipher.{inverse_cipher}
use Rattle.kr_aes.specs.KeyExpansion.{IsKeyLength, IsKeyOf, padded_schedule}
use Rattle.kr_hkdf.specs.Hkdf.{hkdf_expand}
use Rattle.kr_hkdf.specs.Hmac.{hmac}
use Rattle.kr_keywrap.specs.KeyWrap.{key_unwrap, key_wrap}
use Rattle.kr_keywrap.specs.declared.key_wrap.WrapNo.{WrapNo}
use Rattle.kr_modes.specs.declared.ModeNo.{ModeNo}
use Rattle.kr_modes.specs.Cbc.{cbc, cbc_opened}
use Rattle.kr_modes.specs.Gcm.{gcm, gcm_opened}
use Rattle.kr_modes.specs.Padding.{pad}
use Rattle.test_vectors.specs.declared.case.Case.{Case}
use Rattle.test_vectors.specs.declared.case.Case.TheVariants.{Cipher, Hmac, Hkdf}
use Rattle.test_vectors.specs.declared.case.Operation.{Operation}
use Rattle.test_vectors.specs.declared.case.Operation.TheVariants.{Encrypt, Decrypt, CbcSeal, CbcUnseal, GcmSeal, GcmUnseal, Wrap, Unwrap}
use Rattle.test_vectors.specs.declared.outcome.Outcome.{Outcome}
use Rattle.test_vectors.specs.declared.outcome.Outcome.TheVariants.{Bytes, KeyLength, Refused, NotWrapped}

-- an outcome tells the bytes or the refusal of a mode
abbrev pub Tells : Outcome → Result (List ℕ) ModeNo → Type 0
Tells (Bytes bytes) given = given ≡ Ok bytes.items
Tells KeyLength given = ⊥
Tells (Refused why) given = given ≡ Err why
Tells (NotWrapped why) given = ⊥

-- an outcome tells the bytes or the refusal of the key wrap
abbrev pub TellsUnwrapped : Outcome → Result (List ℕ) WrapNo → Type 0
TellsUnwrapped (Bytes bytes) given = given ≡ Ok bytes.items
TellsUnwrapped KeyLength given = ⊥
TellsUnwrapped (Refused why) given = ⊥
TellsUnwrapped (NotWrapped why) given = given ≡ Err why

-- an outcome tells what an operation gives under a key's schedule
abbrev pub Gives : List ℕ → Rounds → Operation → Outcome → Type 0
Gives words rounds (Encrypt block) outcome = Tells outcome (Ok (cipher words rounds block))
Gives words rounds (Decrypt block) outcome = Tells outcome (Ok (inverse_cipher words rounds block))
Gives words rounds (CbcSeal iv plain) outcome =
    Tells outcome (Ok (cbc (cipher words rounds) iv (pad plain.bytes.items)))
Gives words rounds (CbcUnseal body) outcome =
    Tells outcome (cbc_opened (inverse_cipher words rounds) body.bytes.items)
Gives words rounds (GcmSeal nonce aad plain) outcome =
    Tells outcome (Ok (gcm (cipher words rounds) nonce aad.bytes.items plain.bytes.items))
Gives words rounds (GcmUnseal nonce aad body) outcome =
    Tells outcome (gcm_opened (cipher words rounds) nonce aad.bytes.items body.bytes.items)
Gives words rounds (Wrap plain) outcome =
    Tells outcome (Ok (key_wrap (cipher words rounds) plain.bytes.items))
Gives words rounds (Unwrap body) outcome =
    TellsUnwrapped outcome (key_unwrap (inverse_cipher words rounds) body.bytes.items)

-- what a case comes to: under a key of AES what it gives, or the refusal of another key's length,
-- and the code or the keying material of any key
abbrev pub ComesTo : Case → Outcome → Type 0
ComesTo (Cipher key operation) outcome =
    (¬ IsKeyLength (length key.bytes.items) → outcome ≡ KeyLength)
    × ((rounds : Rounds) → IsKeyOf (length key.bytes.items) rounds
    → Gives (padded_schedule key.bytes.items) rounds operation outcome)
ComesTo (Hmac key message) outcome = Tells outcome (Ok (hmac key.bytes.items message.bytes.items))
ComesTo (Hkdf key expansion) outcome =
    Tells outcome
    (Ok (hkdf_expand key.bytes.items expansion.info.items (from_be_bytes w16 expansion.size)))
