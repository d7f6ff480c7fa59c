-- Cipher block chaining (SP 800-38A, section 6.2) with a block cipher and its inverse that are
-- given as functions of blocks.
use Rattle.std.specs.Prelude.{◌≡◌, ℕ, ◌%◌, ◌<◌, ◌==◌, if◌then◌else◌, nat_le, List, [], ◌∷◌, ◌++◌, All, length, take, drop, ok_or, Result, Ok, Err}
use Rattle.kr_aes.specs.declared.Rounds.{Rounds}
use Rattle.kr_aes.specs.Cipher.{IsBlock, cipher}
use Rattle.kr_aes.specs.InverseCipher.{inverse_cipher}
use Rattle.kr_modes.specs.declared.ModeNo.{ModeNo}
use Rattle.kr_modes.specs.declared.ModeNo.TheVariants.{Short, BadBlock, BadPadding}
use Rattle.kr_modes.specs.Blocks.{blocks, xor}
use Rattle.kr_modes.specs.Padding.{pad, unpad}

-- the first output block is the cipher of the first block xor the IV, and it is the IV of the rest
unfoldable pub cbc_blocks : (List ℕ → List ℕ) → List ℕ → List (List ℕ) → List ℕ
cbc_blocks encipher iv [] = []
cbc_blocks encipher iv (block ∷ rest) =
    let first = encipher (xor block iv) in
    first ++ cbc_blocks encipher first rest

-- the encryption of a string of whole blocks
unfoldable pub cbc : (List ℕ → List ℕ) → List ℕ → List ℕ → List ℕ
cbc encipher iv bytes = cbc_blocks encipher iv (blocks bytes)

-- the other way: the inverse cipher of the first block xor the IV, and that block is the IV of the
-- rest
unfoldable pub uncbc_blocks : (List ℕ → List ℕ) → List ℕ → List (List ℕ) → List ℕ
uncbc_blocks decipher iv [] = []
uncbc_blocks decipher iv (block ∷ rest) =
    xor (decipher block) iv ++ uncbc_blocks decipher block rest

-- the decryption of a string of whole blocks
unfoldable pub uncbc : (List ℕ → List ℕ) → List ℕ → List ℕ → List ℕ
uncbc decipher iv bytes = uncbc_blocks decipher iv (blocks bytes)

-- the plain bytes of an IV and the blocks behind it, or the first cause of a refusal
unfoldable pub cbc_opened : (List ℕ → List ℕ) → List ℕ → Result (List ℕ) ModeNo
cbc_opened decipher body =
    if nat_le (length body) 16 then Err Short
    else if length body % 16 == 0
    then ok_or (unpad (uncbc decipher (take 16 body) (drop 16 body))) BadPadding
    else Err BadBlock

-- ---- a law for callers

abbrev pub CbcOpensSealed : Type 0
CbcOpensSealed = (words : List ℕ) (rounds : Rounds) (iv plain : List ℕ) → IsBlock iv
    → All (λ byte. byte < 256) plain
    → cbc_opened (inverse_cipher words rounds) (iv ++ cbc (cipher words rounds) iv (pad plain))
    ≡ Ok plain
