-- How a bench unseals: what it may ask of plugins, and how its answer stands to the value's
-- reading.
use Rattle.std.specs.Prelude.{◌≡◌, ◌⊎◌, ℕ, List, [], ◌∷◌, Option, Some, None, Result, Ok, Err, ⊤}
use Rattle.kr_config.specs.declared.who.Who.{Who}
use Rattle.kr_config.specs.declared.who.Who.TheVariants.{Identity, Aescbc, Aesgcm, Kms}
use Rattle.kr_config.specs.Providers.{plugin_of}
use Rattle.kr_envelope.specs.declared.object.EncryptedObject.{EncryptedObject}
use Rattle.kr_envelope.specs.declared.object.ObjectNo.{ObjectNo}
use Rattle.kr_kms.specs.Cache.{seed_at}
use Rattle.kr_kms.specs.Calls.{Link}
use Rattle.kr_kms.specs.Opens.{key_of}
use Rattle.kr_kms.specs.declared.seeds.SeedKey.{SeedKey}
use Rattle.kr_kms.specs.declared.seeds.SeedRow.{SeedRow}
use Rattle.kr_provider.specs.AskedLinks.{AskedOnly, FaultRose}
use Rattle.kr_provider.specs.Envelopes.{Envelope, HasObject, IsObjectOf, seed_key}
use Rattle.kr_provider.specs.Publication.{seed_of}
use Rattle.kr_provider.specs.Readers.{reader_in}
use Rattle.kr_provider.specs.Reading.{Unseals}
use Rattle.kr_provider.specs.declared.refusal.Opened.{Opened}
use Rattle.kr_provider.specs.declared.refusal.UnsealNo.{UnsealNo}
use Rattle.kr_provider.specs.declared.refusal.UnsealNo.TheVariants.{Refused, PluginFailed, NoMemory}

-- the published seed of the plugin is the object's: name, key id, annotations and source are the
-- same
abbrev pub IsSeedOf : SeedRow → (name : List ℕ) → EncryptedObject → Type 0
IsSeedOf row name object = key_of row ≡ seed_key name object

-- the plugin may be asked for the object's seed: the published one is another
abbrev pub MayAskFor : List SeedRow → (name : List ℕ) → EncryptedObject → Type 0
MayAskFor seeds name object =
    (row : SeedRow) → seed_of name seeds ≡ Some row → IsSeedOf row name object → ⊥

-- a plugin may be asked for a value only where it reads the value and the value has an object
abbrev pub MayAskPlugin : List SeedRow → Option Who → Result EncryptedObject ObjectNo → Type 0
MayAskPlugin seeds None object = ⊥
MayAskPlugin seeds (Some Identity) object = ⊥
MayAskPlugin seeds (Some (Aescbc name secret)) object = ⊥
MayAskPlugin seeds (Some (Aesgcm name secret)) object = ⊥
MayAskPlugin seeds (Some (Kms name)) (Ok object) = MayAskFor seeds name object
MayAskPlugin seeds (Some (Kms name)) (Err why) = ⊥

-- the reader of a value, where it is a plugin
abbrev pub plugin_reading : Option Who → List (List ℕ)
plugin_reading None = []
plugin_reading (Some who) = plugin_of who

-- a published seed that is the object's is taken for its source
abbrev pub TakesSeed : List SeedRow → Option Who → Envelope → Type 0
TakesSeed seeds None envelope = ⊤
TakesSeed seeds (Some Identity) envelope = ⊤
TakesSeed seeds (Some (Aescbc name secret)) envelope = ⊤
TakesSeed seeds (Some (Aesgcm name secret)) envelope = ⊤
TakesSeed seeds (Some (Kms name)) envelope = (object : EncryptedObject) (row : SeedRow)
    → envelope.object ≡ Ok object → seed_of name seeds ≡ Some row → IsSeedOf row name object
    → envelope.source ≡ Some row.seed

-- where the object is refused there is no source
abbrev pub HasNoSource : Envelope → Type 0
HasNoSource envelope = (why : ObjectNo) → envelope.object ≡ Err why → envelope.source ≡ None

-- the answer is the reading of an envelope: the object is the value's, whatever the links tell; its
-- source is a published seed where one is the object's, and an object that is refused has none
pub record IsReading {L : Type 0} (link : L → Link) (seeds : List SeedRow)
    (list : List Who) (path bytes : List ℕ) (old : List L) (result : Result Opened UnsealNo)
    (new : List L) : Type 0 where
  pub envelope : Envelope
  pub object : HasObject (reader_in list bytes) bytes envelope.object
  pub published : TakesSeed seeds (reader_in list bytes) envelope
  pub unsourced : HasNoSource envelope
  pub is : Unseals envelope seeds list path bytes result
  -- no link is asked but that to the reader, and that one only where it may be asked
  pub asked : AskedOnly link (plugin_reading (reader_in list bytes)) old new
  pub unasked : (MayAskPlugin seeds (reader_in list bytes) envelope.object → ⊥) → new ≡ old

-- the plugin that reads the value was asked for the object's source and failed
pub record FailsAtSource {L : Type 0} (link : L → Link) (seeds : List SeedRow) (list : List Who)
    (bytes : List ℕ) (old : List L) (name : List ℕ) (new : List L) : Type 0 where
  pub object : EncryptedObject
  pub reader : reader_in list bytes ≡ Some (Kms name)
  pub reads : IsObjectOf name bytes (Ok object)
  pub asked : MayAskFor seeds name object
  pub rose : FaultRose link name old new
  pub others : AskedOnly link (name ∷ []) old new

-- there was no memory. No link was asked, or that to the reader was, which may be asked
pub record LacksMemory {L : Type 0} (link : L → Link) (seeds : List SeedRow) (list : List Who)
    (bytes : List ℕ) (old new : List L) : Type 0 where
  pub asked : AskedOnly link (plugin_reading (reader_in list bytes)) old new
  pub unasked : (new ≡ old) ⊎ ((object : Result EncryptedObject ObjectNo)
      × HasObject (reader_in list bytes) bytes object
      × MayAskPlugin seeds (reader_in list bytes) object)

-- each answer, in the order in which a refusal comes
module _ {L : Type 0} (link : L → Link) where
  abbrev pub UnsealsBy : List SeedRow → List Who → (path bytes : List ℕ) → List L
      → Result Opened UnsealNo → List L → Type 0
  UnsealsBy seeds list path bytes old (Ok opened) new =
      IsReading link seeds list path bytes old (Ok opened) new
  UnsealsBy seeds list path bytes old (Err (Refused why)) new =
      IsReading link seeds list path bytes old (Err (Refused why)) new
  UnsealsBy seeds list path bytes old (Err (PluginFailed name)) new =
      FailsAtSource link seeds list bytes old name new
  UnsealsBy seeds list path bytes old (Err NoMemory) new =
      LacksMemory link seeds list bytes old new

-- ---- the cache

-- where the cache has what the source of the value's object opens to, by the plugin that reads the
-- value, no link is asked; and that source is the envelope's, unless the published seed is the
-- object's
abbrev pub HeedsCache : {L : Type 0} → List (SeedKey × List ℕ) → List SeedRow → List Who
    → (path bytes : List ℕ) → List L → Result Opened UnsealNo → List L → Type 0
HeedsCache rows seeds list path bytes old result new = (name : List ℕ)
    (object : EncryptedObject) (source : List ℕ)
    → reader_in list bytes ≡ Some (Kms name) → IsObjectOf name bytes (Ok object)
    → seed_at rows (seed_key name object) ≡ Some source
    → (new ≡ old) × (MayAskFor seeds name object
    → Unseals (record { object = Ok object; source = Some source }) seeds list path bytes result)
