-- Opening in one buffer: the plain blocks go to its front, over what is opened already.
use Rattle.std.specs.Prelude.{ℕ, ◌+◌, ◌*◌, List, ◌++◌, take, drop}
use Rattle.kr_modes.specs.Cbc.{uncbc}

-- the first i blocks of a buffer, and what the sealed blocks open to that stand behind its first
-- `from` bytes: those from block i on, which is their IV
unfoldable pub opened_from : (List ℕ → List ℕ) → ℕ → ℕ → List ℕ → List ℕ
opened_from decipher from i buffer =
    let sealed = drop (from + 16 * i) buffer in
    take (16 * i) buffer ++ uncbc decipher (take 16 sealed) (drop 16 sealed)
