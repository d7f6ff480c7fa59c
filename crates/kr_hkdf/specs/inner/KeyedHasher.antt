-- What contracts see of a hasher under a key.
use Rattle.std.specs.Prelude.{ℕ, List, ◌++◌}
use Rattle.sha2.specs.Hashers.{Holds256}
use Rattle.kr_hkdf.specs.Hmac.{padded_key}
use Rattle.kr_hkdf.specs.declared.keyed_hash.KeyedHasher.{KeyedHasher}

-- the hasher is keyed by this key and has taken in this text
pub record Holds (hasher : KeyedHasher) (key text : List ℕ) : Type 0 where
  pub inner : Holds256 hasher.inner (padded_key key 0x36 ++ text)
  pub outer : Holds256 hasher.outer (padded_key key 0x5C)
