-- The check that a store keeps with a value: it tells another secret of the same name, and nothing
-- of the secret itself.
use Rattle.std.specs.Prelude.{ℕ, List, take, replicate}
use Rattle.kr_config.specs.declared.who.Who.{Who}
use Rattle.kr_config.specs.declared.who.Who.TheVariants.{Identity, Aescbc, Aesgcm, Kms}
use Rattle.kr_hkdf.specs.Hmac.{hmac}

-- the first 8 bytes of the HMAC-SHA256 (RFC 2104) of the name under the secret
abbrev pub keyed_check : (secret name : List ℕ) → List ℕ
keyed_check secret name = take 8 (hmac secret name)

-- zeros where there is no secret
abbrev pub provider_check : Who → List ℕ
provider_check Identity = replicate 8 0
provider_check (Aescbc name secret) = keyed_check secret name
provider_check (Aesgcm name secret) = keyed_check secret name
provider_check (Kms name) = replicate 8 0
