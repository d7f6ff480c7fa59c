-- How bytes and outcomes are written.
use Rattle.std.specs.Prelude.{◌≡◌, ◌≢◌, ◌==◌, ℕ, List, [], ◌∷◌, codes, length, ◌⊎◌, Ok}
use Rattle.std.specs.List.{slice_split}
use Rattle.hex.specs.Hex.{IsBytes, decode_of, encode_lower}
use Rattle.kr_keywrap.specs.KeyWrap.{IsWrappable}
use Rattle.kr_keywrap.specs.declared.key_wrap.WrapNo.TheVariants.{Length, Check}
use Rattle.kr_modes.specs.declared.ModeNo.TheVariants.{Short, BadBlock, BadPadding, BadTag}
use Rattle.test_vectors.specs.declared.case.Case.{Case}
use Rattle.test_vectors.specs.declared.case.Case.TheVariants.{Cipher, Hmac, Hkdf}
use Rattle.test_vectors.specs.declared.case.Operation.{Operation}
use Rattle.test_vectors.specs.declared.case.Operation.TheVariants.{Encrypt, Decrypt, CbcSeal, CbcUnseal, GcmSeal, GcmUnseal, Wrap, Unwrap}
use Rattle.test_vectors.specs.declared.outcome.Outcome.{Outcome}
use Rattle.test_vectors.specs.declared.outcome.Outcome.TheVariants.{Bytes, KeyLength, Refused, NotWrapped}

-- a word stands for the bytes: in hex, and by a dash where there are none
abbrev pub StandsFor : List ℕ → List ℕ → Type 0
StandsFor word bytes =
    ((word ≡ codes "-") × (bytes ≡ [])) ⊎ ((word ≢ []) × (decode_of word ≡ Ok bytes))

-- words stand for strings of bytes, one for one
abbrev pub StandFor : List (List ℕ) → List (List ℕ) → Type 0
StandFor [] [] = Unit
StandFor [] (bytes ∷ rest) = ⊥
StandFor (word ∷ words) [] = ⊥
StandFor (word ∷ words) (bytes ∷ rest) = StandsFor word bytes × StandFor words rest

-- a name and the words behind the key ask for an operation
abbrev pub AskFor : List ℕ → List (List ℕ) → Operation → Type 0
AskFor name words (Encrypt block) =
    (name ≡ codes "aes") × (length block ≡ 16) × StandFor words (block ∷ [])
AskFor name words (Decrypt block) =
    (name ≡ codes "unaes") × (length block ≡ 16) × StandFor words (block ∷ [])
AskFor name words (CbcSeal iv plain) =
    (name ≡ codes "cbc") × (length iv ≡ 16) × StandFor words (iv ∷ plain.bytes.items ∷ [])
AskFor name words (CbcUnseal body) = (name ≡ codes "uncbc") × StandFor words (body.bytes.items ∷ [])
AskFor name words (GcmSeal nonce aad plain) =
    (name ≡ codes "gcm") × (length nonce ≡ 12)
    × StandFor words (nonce ∷ aad.bytes.items ∷ plain.bytes.items ∷ [])
AskFor name words (GcmUnseal nonce aad body) =
    (name ≡ codes "ungcm") × (length nonce ≡ 12)
    × StandFor words (nonce ∷ aad.bytes.items ∷ body.bytes.items ∷ [])
AskFor name words (Wrap plain) =
    (name ≡ codes "wrap") × IsWrappable (length plain.bytes.items)
    × StandFor words (plain.bytes.items ∷ [])
AskFor name words (Unwrap body) =
    (name ≡ codes "unwrap") × StandFor words (body.bytes.items ∷ [])

-- a name, the key and the words behind it ask for a case
abbrev pub AskUnderKey : List ℕ → List ℕ → List (List ℕ) → Case → Type 0
AskUnderKey name key words (Cipher bytes operation) =
    StandsFor key bytes.bytes.items × AskFor name words operation
AskUnderKey name key words (Hmac bytes message) =
    StandsFor key bytes.bytes.items × (name ≡ codes "hmac")
    × StandFor words (message.bytes.items ∷ [])
AskUnderKey name key words (Hkdf bytes expansion) =
    StandsFor key bytes.bytes.items × (name ≡ codes "hkdf") × (length expansion.size ≡ 2)
    × StandFor words (expansion.info.items ∷ expansion.size ∷ [])

-- the words of a line ask for a case: a name, the key and the others
abbrev pub WordsAskFor : List (List ℕ) → Case → Type 0
WordsAskFor [] case = ⊥
WordsAskFor (name ∷ []) case = ⊥
WordsAskFor (name ∷ key ∷ words) case = AskUnderKey name key words case

-- the words of a line: it is cut at each space
abbrev pub split_words : List ℕ → List (List ℕ)
split_words line = slice_split (λ byte. byte == 32) line

-- a line asks for a case
abbrev pub Asks : List ℕ → Case → Type 0
Asks line case = WordsAskFor (split_words line) case

-- the word for bytes, in lower case
abbrev pub word_of : List ℕ → List ℕ
word_of [] = codes "-"
word_of (byte ∷ rest) = encode_lower (byte ∷ rest)

-- what is printed for an outcome
abbrev pub outcome_text : Outcome → List ℕ
outcome_text (Bytes bytes) = word_of bytes.items
outcome_text KeyLength = codes "KeyLength"
outcome_text (Refused Short) = codes "Short"
outcome_text (Refused BadBlock) = codes "BadBlock"
outcome_text (Refused BadPadding) = codes "BadPadding"
outcome_text (Refused BadTag) = codes "BadTag"
outcome_text (NotWrapped Length) = codes "Length"
outcome_text (NotWrapped Check) = codes "Check"

-- ---- a law for a reader: the word that is printed for bytes stands for them where it is read

abbrev pub WordStandsForBytes : Type 0
WordStandsForBytes = (bytes : List ℕ) → IsBytes bytes → StandsFor (word_of bytes) bytes
