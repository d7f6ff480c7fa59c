-- The block cipher under a key (FIPS 197).
use Rattle.std.specs.Prelude.{ℕ, ◌==◌, if◌then◌else◌, List, length}
use Rattle.kr_aes.specs.declared.Rounds.{Rounds}
use Rattle.kr_aes.specs.declared.Rounds.TheVariants.{Ten, Twelve, Fourteen}
use Rattle.kr_aes.specs.Cipher.{cipher}
use Rattle.kr_aes.specs.InverseCipher.{inverse_cipher}
use Rattle.kr_aes.specs.KeyExpansion.{padded_schedule}

-- a key of 16, 24 or 32 bytes has ten, twelve or fourteen rounds
abbrev pub rounds_under : List ℕ → Rounds
rounds_under key = if length key == 16 then Ten else if length key == 24 then Twelve else Fourteen

abbrev pub cipher_under : List ℕ → List ℕ → List ℕ
cipher_under key = cipher (padded_schedule key) (rounds_under key)

abbrev pub inverse_under : List ℕ → List ℕ → List ℕ
inverse_under key = inverse_cipher (padded_schedule key) (rounds_under key)
