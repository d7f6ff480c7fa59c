-- What a stored value reads as, by the providers of a list: data, or the first refusal that
-- applies, or nothing since no plugin opened its source.
use Rattle.std.specs.Prelude.{◌≡◌, ℕ, ◌==◌, ◌&&◌, ◌||◌, Bool, true, false, not, if◌then◌else◌, List, take, drop, length, Option, Some, None, Result, Ok, Err, ⊤}
use Rattle.std.specs.Str.{bytes_eq}
use Rattle.kr_modes.specs.declared.ModeNo.{ModeNo}
use Rattle.kr_modes.specs.declared.ModeNo.TheVariants.{Short, BadBlock, BadPadding, BadTag}
use Rattle.kr_modes.specs.Cbc.{cbc_opened}
use Rattle.kr_modes.specs.Gcm.{gcm_opened}
use Rattle.kr_envelope.specs.declared.object.EncryptedObject.{EncryptedObject}
use Rattle.kr_envelope.specs.declared.object.ObjectNo.{ObjectNo}
use Rattle.kr_envelope.specs.declared.object.ObjectNo.TheVariants as object
use Rattle.kr_envelope.specs.declared.object.SourceKind.{SourceKind}
use Rattle.kr_envelope.specs.declared.object.SourceKind.TheVariants.{Key, Seed}
use Rattle.kr_config.specs.declared.who.Who.{Who}
use Rattle.kr_config.specs.declared.who.Who.TheVariants.{Identity, Aescbc, Aesgcm, Kms}
use Rattle.kr_kms.specs.declared.seeds.SeedRow.{SeedRow}
use Rattle.kr_kms.specs.Opens.{Opens}
use Rattle.kr_provider.specs.Ciphers.{cipher_under, inverse_under}
use Rattle.kr_provider.specs.Envelopes.{Envelope, HasObject, IsEnvelopeOf, value_key}
use Rattle.kr_provider.specs.Publication.{seed_of}
use Rattle.kr_provider.specs.Readers.{reader_in, is_reader, writer_of, body_by}
use Rattle.kr_provider.specs.declared.refusal.Opened.{Opened}
use Rattle.kr_provider.specs.declared.refusal.UnsealNo.{UnsealNo}
use Rattle.kr_provider.specs.declared.refusal.ValueNo.{ValueNo}
use Rattle.kr_provider.specs.declared.refusal.ValueNo.TheVariants as value
use Rattle.kr_provider.specs.declared.refusal.UnsealNo.TheVariants.{Refused, PluginFailed, NoMemory}

pub data Reading : Type 0 where
  data_of : List ℕ → Reading
  refused : ValueNo → Reading
  unopened : Reading

-- ---- refusals

-- those of a body
abbrev pub body_refusal : ModeNo → Reading
body_refusal Short = refused value.Short
body_refusal BadBlock = refused value.BadBlock
body_refusal BadPadding = refused value.BadPadding
body_refusal BadTag = refused value.BadTag

-- those of an encrypted object; want of memory tells nothing of it
abbrev pub object_refusal : ObjectNo → Reading
object_refusal (object.Wire at) = refused value.Wire
object_refusal object.KeyId = refused value.KeyId
object_refusal object.Source = refused value.Source
object_refusal object.Annotations = refused value.Annotations
object_refusal object.SourceType = refused value.SourceType
object_refusal object.NoData = refused value.NoData
object_refusal (object.NotUtf8 at) = refused value.NotUtf8
object_refusal object.NoMemory = unopened

abbrev pub no_provider : Reading
no_provider = refused value.NoProvider

-- the unwrapped source hasn't 32 bytes
abbrev pub seed_length : Reading
seed_length = refused value.SeedLength

-- ---- the bodies

abbrev pub body_reading : Result (List ℕ) ModeNo → Reading
body_reading (Ok plain) = data_of plain
body_reading (Err why) = body_refusal why

-- a nonce of 12 bytes, then ciphertext and tag with the path as associated data
abbrev pub gcm_reading : (key path body : List ℕ) → Reading
gcm_reading key path body = body_reading (gcm_opened (cipher_under key) (take 12 body) path
    (drop 12 body))

-- the body under a source: a source of type 0 is the key itself; one of type 1 is a seed, and in
-- front of the body stands the info of 32 bytes that makes the key
abbrev pub body_under : SourceKind → (source path encrypted : List ℕ) → Reading
body_under Key key path encrypted = gcm_reading key path encrypted
body_under Seed seed path encrypted =
    gcm_reading (value_key seed (take 32 encrypted)) path (drop 32 encrypted)

-- either has 32 bytes
abbrev pub source_reading : SourceKind → (source path encrypted : List ℕ) → Reading
source_reading kind source path encrypted =
    if length source == 32 then body_under kind source path encrypted else seed_length

abbrev pub kind_reading : SourceKind → Option (List ℕ) → (path encrypted : List ℕ) → Reading
kind_reading kind None path encrypted = unopened
kind_reading kind (Some source) path encrypted = source_reading kind source path encrypted

abbrev pub object_reading : Result EncryptedObject ObjectNo → Option (List ℕ) → (path : List ℕ)
    → Reading
object_reading (Ok object) source path = kind_reading object.kind source path object.encrypted
object_reading (Err why) source path = object_refusal why

-- ---- values

-- by one provider; the envelope of a plugin's value is handed in
abbrev pub provider_reading : Envelope → Who → (path body : List ℕ) → Reading
provider_reading envelope Identity path body = data_of body
provider_reading envelope (Aescbc name secret) path body =
    body_reading (cbc_opened (inverse_under secret) body)
provider_reading envelope (Aesgcm name secret) path body = gcm_reading secret path body
provider_reading envelope (Kms name) path body = object_reading envelope.object envelope.source path

abbrev pub reader_reading : Envelope → Option Who → (path bytes : List ℕ) → Reading
reader_reading envelope None path bytes = no_provider
reader_reading envelope (Some who) path bytes =
    provider_reading envelope who path (body_by who bytes)

-- by the reader of the list
abbrev pub value_reading : Envelope → List Who → (path bytes : List ℕ) → Reading
value_reading envelope list path bytes = reader_reading envelope (reader_in list bytes) path bytes

-- a value reads so, by what wrapped sources open to
abbrev pub HasReading : Opens → List Who → (path bytes : List ℕ) → Reading → Type 0
HasReading opens list path bytes reading = (envelope : Envelope)
    × IsEnvelopeOf opens list bytes envelope × (value_reading envelope list path bytes ≡ reading)

-- a value reads so with some unwrapped source, whatever that is
abbrev pub HasSomeReading : List Who → (path bytes : List ℕ) → Reading → Type 0
HasSomeReading list path bytes reading = (envelope : Envelope)
    × HasObject (reader_in list bytes) bytes envelope.object
    × (value_reading envelope list path bytes ≡ reading)

-- ---- staleness: another provider than the writer read the value, or it is a plugin whose key id
-- isn't the published one, or its source is of type 0

abbrev pub is_seed : SourceKind → Bool
is_seed Key = false
is_seed Seed = true

-- as the published seed of the plugin would have it
abbrev pub is_current : Option SeedRow → Result EncryptedObject ObjectNo → Bool
is_current None read = false
is_current (Some row) (Ok object) = bytes_eq object.key_id row.key_id && is_seed object.kind
is_current (Some row) (Err why) = false

abbrev pub is_rotated : Envelope → List SeedRow → Who → Bool
is_rotated envelope seeds Identity = false
is_rotated envelope seeds (Aescbc name secret) = false
is_rotated envelope seeds (Aesgcm name secret) = false
is_rotated envelope seeds (Kms name) = not (is_current (seed_of name seeds) envelope.object)

abbrev pub is_stale : Envelope → List SeedRow → List Who → (bytes : List ℕ) → Bool
is_stale envelope seeds list bytes = not (is_reader bytes (writer_of list))
    || is_rotated envelope seeds (writer_of list)

-- ---- calls: each answer comes exactly where it is the reading, but for want of memory

abbrev pub Unseals : Envelope → List SeedRow → List Who → (path bytes : List ℕ)
    → Result Opened UnsealNo → Type 0
Unseals envelope seeds list path bytes (Ok opened) =
    (value_reading envelope list path bytes ≡ data_of opened.plain)
    × (opened.stale ≡ is_stale envelope seeds list bytes)
Unseals envelope seeds list path bytes (Err (Refused why)) = value_reading envelope list path bytes
    ≡ refused why
Unseals envelope seeds list path bytes (Err (PluginFailed name)) = ⊥
Unseals envelope seeds list path bytes (Err NoMemory) = ⊤
