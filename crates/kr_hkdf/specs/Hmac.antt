-- HMAC (RFC 2104, section 2) with SHA-256 as its hash function H. Keys, texts and codes are lists
-- of bytes, and a block of H has B = 64 bytes.
use Rattle.std.specs.Prelude.{ℕ, ◌-◌, List, ◌++◌, length, map, replicate, nat_lt, if◌then◌else◌, bit_xor}
use Rattle.sha2.specs.Sha256.{sha256}

-- K: a key longer than B bytes is first hashed
abbrev pub hashed_key : List ℕ → List ℕ
hashed_key key = if nat_lt 64 (length key) then sha256 key else key

-- step (1): zeros are appended to K, up to B bytes
abbrev pub key_block : List ℕ → List ℕ
key_block key = hashed_key key ++ replicate (64 - length (hashed_key key)) 0

-- steps (2) and (5): that block XOR a pad, which is one byte repeated B times
abbrev pub padded_key : List ℕ → ℕ → List ℕ
padded_key key pad = map (λ byte. bit_xor byte pad) (key_block key)

-- H(K XOR opad, H(K XOR ipad, text)), with 0x36 repeated as ipad and 0x5C repeated as opad. Texts
-- that FIPS 180-4 has no digest for, of nearly 2 ^ 61 bytes and more, have the one that sha256
-- gives.
unfoldable pub hmac : List ℕ → List ℕ → List ℕ
hmac key text = sha256 (padded_key key 0x5C ++ sha256 (padded_key key 0x36 ++ text))
