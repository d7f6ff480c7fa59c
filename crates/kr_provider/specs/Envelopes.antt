-- What a plugin's value holds behind its prefix: an encrypted object, whose source is a wrapped
-- seed (after KEP-3299).
-- The layout by which the seed makes the key of one value is our own.
use Rattle.std.specs.Prelude.{◌≡◌, ◌≢◌, ℕ, List, ◌++◌, take, drop, Option, Some, None, Result, Ok, Err, ⊤}
use Rattle.kr_modes.specs.Gcm.{gcm}
use Rattle.kr_hkdf.specs.Hkdf.{hkdf_expand}
use Rattle.kr_envelope.specs.declared.object.EncryptedObject.{EncryptedObject}
use Rattle.kr_envelope.specs.declared.object.ObjectNo.{ObjectNo}
use Rattle.kr_envelope.specs.declared.object.ObjectNo.TheVariants.{NoMemory}
use Rattle.kr_envelope.specs.declared.object.SourceKind.TheVariants.{Seed}
use Rattle.kr_envelope.specs.Limits.{ReadsMessage}
use Rattle.kr_config.specs.declared.who.Who.{Who}
use Rattle.kr_config.specs.declared.who.Who.TheVariants.{Identity, Aescbc, Aesgcm, Kms}
use Rattle.kr_kms.specs.declared.seeds.SeedKey.{SeedKey}
use Rattle.kr_kms.specs.declared.seeds.SeedRow.{SeedRow}
use Rattle.kr_kms.specs.Opens.{Opens}
use Rattle.kr_provider.specs.Ciphers.{cipher_under}
use Rattle.kr_provider.specs.Readers.{body_by, reader_in}

-- ---- writing

-- the nonce, then ciphertext and tag with the path as associated data
abbrev pub gcm_body : (key path plain nonce : List ℕ) → List ℕ
gcm_body key path plain nonce = nonce ++ gcm (cipher_under key) nonce path plain

-- the key of one value under a seed: HKDF-Expand with the value's info
abbrev pub value_key : (seed info : List ℕ) → List ℕ
value_key seed info = hkdf_expand seed info 32

-- the info, of 32 drawn bytes, and the body under the key that it makes, with a nonce of 12 drawn
-- bytes
abbrev pub seed_body : (seed path plain drawn : List ℕ) → List ℕ
seed_body seed path plain drawn = take 32 drawn
    ++ gcm_body (value_key seed (take 32 drawn)) path plain (drop 32 drawn)

-- with what the plugin wants back to unwrap the seed
abbrev pub sealed_object : SeedRow → (path plain drawn : List ℕ) → EncryptedObject
sealed_object row path plain drawn = record {
  encrypted = seed_body row.seed path plain drawn;
  key_id =
      row.key_id;
  source = row.source;
  annotations = row.annotations;
  kind = Seed;
}

-- ---- reading

-- the object of a plugin's value or why there is none, and what its source was unwrapped to, if it
-- was
pub record Envelope : Type 0 where
  pub object : Result EncryptedObject ObjectNo
  pub source : Option (List ℕ)

-- nothing is known of it
abbrev pub unknown : Envelope
unknown = record { object = Err NoMemory; source = None }

-- what names the seed of an object
abbrev pub seed_key : (name : List ℕ) → EncryptedObject → SeedKey
seed_key name object = record {
  name = name;
  key_id = object.key_id;
  annotations =
      object.annotations;
  source = object.source;
}

abbrev pub source_by : Opens → (name : List ℕ) → Result EncryptedObject ObjectNo → Option (List ℕ)
source_by opens name (Ok object) = opens (seed_key name object)
source_by opens name (Err why) = None

-- what the body of a plugin's value spells
abbrev pub IsObjectOf : (name bytes : List ℕ) → Result EncryptedObject ObjectNo → Type 0
IsObjectOf name bytes object = ReadsMessage (body_by (Kms name) bytes) object
    × (object ≢ Err NoMemory)

-- the object of a value, by its reader; only a plugin's has one
abbrev pub HasObject : Option Who → (bytes : List ℕ) → Result EncryptedObject ObjectNo → Type 0
HasObject None bytes object = ⊤
HasObject (Some Identity) bytes object = ⊤
HasObject (Some (Aescbc name secret)) bytes object = ⊤
HasObject (Some (Aesgcm name secret)) bytes object = ⊤
HasObject (Some (Kms name)) bytes object = IsObjectOf name bytes object

-- the envelope of a value, by its reader: its object, and what the source opens to
abbrev pub HasEnvelope : Opens → Option Who → (bytes : List ℕ) → Envelope → Type 0
HasEnvelope opens None bytes envelope = ⊤
HasEnvelope opens (Some Identity) bytes envelope = ⊤
HasEnvelope opens (Some (Aescbc name secret)) bytes envelope = ⊤
HasEnvelope opens (Some (Aesgcm name secret)) bytes envelope = ⊤
HasEnvelope opens (Some (Kms name)) bytes envelope = IsObjectOf name bytes envelope.object
    × (envelope.source ≡ source_by opens name envelope.object)

abbrev pub IsEnvelopeOf : Opens → List Who → (bytes : List ℕ) → Envelope → Type 0
IsEnvelopeOf opens list bytes envelope = HasEnvelope opens (reader_in list bytes) bytes envelope
