-- A generator that stands at a place of a stream.
use Rattle.std.specs.Prelude.{◌≡◌, ℕ, ◌+◌, ◌/◌, ◌%◌, ◌^◌, ◌<◌, ◌≤◌, List}
use Rattle.std.specs.Int.{to_le_bytes, w32}
use Rattle.rand_chacha.specs.ChaCha.{ChaCha, word_at}

-- it comes to the first word that begins at the place or behind it; the word which the place is in
-- is at hand
pub record StandsAt (generator : ChaCha) (word : List ℕ) (place : ℕ) : Type 0 where
  pub nonce : generator.stream ≡ 0
  pub next : generator.word_pos ≡ (place + 3) / 4 % 2 ^ 68
  pub within : place ≤ 2 ^ 70
  pub word_is : 0 < place % 4
      → word ≡ to_le_bytes w32 (word_at 4 generator.key 0 (place / 4))
