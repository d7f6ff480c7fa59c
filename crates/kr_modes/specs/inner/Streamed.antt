-- GCTR in one buffer: the blocks go to its front, over what is read already.
use Rattle.std.specs.Prelude.{◌≡◌, ℕ, ◌+◌, ◌*◌, List, length, take, drop}
use Rattle.kr_modes.specs.Blocks.{xor}
use Rattle.kr_modes.specs.Gcm.{key_stream}

-- n blocks are written of the bytes that stood behind the first `from` bytes of a buffer, and those
-- that aren't read yet still stand there
pub record IsStreamed (encipher : List ℕ → List ℕ) (nonce bytes buffer : List ℕ) (from n : ℕ)
    : Type 0 where
  pub size : length buffer ≡ from + length bytes
  pub written : take (16 * n) buffer ≡ xor bytes (key_stream encipher nonce n)
  pub unread : drop (from + 16 * n) buffer ≡ drop (16 * n) bytes
