-- By which exchanges with plugins, exactly, a bench publishes, tells a key id and unseals. To seal
-- it asks none.
use Rattle.std.specs.Prelude.{◌≡◌, ℕ, ◌⊎◌, List, [], ◌∷◌, ◌++◌, Option, Some, None, Result, Ok, Err}
use Rattle.kr_config.specs.declared.who.Who.{Who}
use Rattle.kr_config.specs.declared.who.Who.TheVariants.{Kms}
use Rattle.kr_config.specs.Kept.{ConfigEntry, plugins_in}
use Rattle.kr_config.specs.Nexts.{IsNextName}
use Rattle.kr_envelope.specs.declared.object.EncryptedObject.{EncryptedObject}
use Rattle.kr_kms.specs.Cache.{CacheState, FetchesBy}
use Rattle.kr_kms.specs.Exchanges.{Exchange}
use Rattle.kr_kms.specs.Health.{TellsKeyIdBy}
use Rattle.kr_kms.specs.Seeds.{MakesSeedBy}
use Rattle.kr_kms.specs.declared.plugin.KmsNo.{KmsNo}
use Rattle.kr_kms.specs.declared.plugin.KmsNo.TheVariants as kms
use Rattle.kr_kms.specs.declared.health.SeedNo.{SeedNo}
use Rattle.kr_kms.specs.declared.health.SeedNo.TheVariants as seed
use Rattle.kr_kms.specs.declared.seeds.SeedRow.{SeedRow}
use Rattle.kr_provider.specs.Envelopes.{Envelope, HasObject, IsObjectOf, seed_key}
use Rattle.kr_provider.specs.Publication.{Publication}
use Rattle.kr_provider.specs.Readers.{reader_in}
use Rattle.kr_provider.specs.Reading.{Unseals}
use Rattle.kr_provider.specs.Unsealing.{HasNoSource, MayAskPlugin, MayAskFor, TakesSeed}
use Rattle.kr_provider.specs.declared.refusal.Opened.{Opened}
use Rattle.kr_provider.specs.declared.refusal.PublishNo.{PublishNo}
use Rattle.kr_provider.specs.declared.refusal.PublishNo.TheVariants as publishing
use Rattle.kr_provider.specs.declared.refusal.UnsealNo.{UnsealNo}
use Rattle.kr_provider.specs.declared.refusal.UnsealNo.TheVariants.{PluginFailed, NoMemory}

-- ---- publishing

-- a refusal of the plugin of this name
abbrev pub plugin_refusal : List ℕ → SeedNo → PublishNo
plugin_refusal name seed.Failed = publishing.PluginFailed name
plugin_refusal name seed.DiceFailed = publishing.DiceFailed
plugin_refusal name (seed.Unhealthy field text) = publishing.Unhealthy name field text
plugin_refusal name seed.NoMemory = publishing.NoMemory

-- it is told so, and as nothing else: the memory for its name is taken before it is asked
abbrev pub IsRefusalAt : List ℕ → SeedNo → PublishNo → Type 0
IsRefusalAt name why refusal = refusal ≡ plugin_refusal name why

-- what the plugin of this name answered is told
abbrev pub IsToldAt : {T : Type 0} → List ℕ → Result T SeedNo → Result T PublishNo → Type 0
IsToldAt name (Ok answer) result = result ≡ Ok answer
IsToldAt name (Err why) (Ok answer) = ⊥
IsToldAt name (Err why) (Err refusal) = IsRefusalAt name why refusal

-- the key id of the plugin of this name: its status was asked, once, and what it answered is told;
-- or it wasn't asked, since there was no memory for its name
abbrev pub TellsKeyIdAt : List ℕ → Result (List ℕ) PublishNo → List Exchange → Type 0
TellsKeyIdAt name (Ok key_id) exchanges = (answer : Result (List ℕ) SeedNo)
    × TellsKeyIdBy name answer exchanges × IsToldAt name answer (Ok key_id)
TellsKeyIdAt name (Err why) exchanges = ((answer : Result (List ℕ) SeedNo)
    × TellsKeyIdBy name answer exchanges × IsToldAt {T = List ℕ} name answer (Err why))
    ⊎ ((why ≡ publishing.NoMemory) × (exchanges ≡ []))

-- a seed before others, where those were made
abbrev pub with_seed_first : SeedRow → Result (List SeedRow) PublishNo
    → Result (List SeedRow) PublishNo
with_seed_first row (Ok rows) = Ok (row ∷ rows)
with_seed_first row (Err why) = Err why

module _ {D : Type 0} (left : D → Option (List ℕ)) (count : D → ℕ) where
  -- of the plugins of these names those whose names come after this one make a seed each, in the
  -- order of the names' bytes, up to the first that makes none, or whose name or seed finds no memory
  pub data MakesSeedsBy (names : List (List ℕ)) : (passed : List ℕ) → D
      → Result (List SeedRow) PublishNo → D → List Exchange → Type 0 where
    all_made : {passed : List ℕ} {dice : D} → IsNextName names passed None
        → MakesSeedsBy names passed dice (Ok []) dice []
    refused : {passed : List ℕ} {dice after : D} {exchanges : List Exchange} (name : List ℕ)
        (why : SeedNo) (refusal : PublishNo) → IsNextName names passed (Some name)
        → MakesSeedBy left count name dice (Err why) after exchanges → IsRefusalAt name why refusal
        → MakesSeedsBy names passed dice (Err refusal) after exchanges
    no_name : {passed : List ℕ} {dice : D} (name : List ℕ) → IsNextName names passed (Some name)
        → MakesSeedsBy names passed dice (Err publishing.NoMemory) dice []
    no_room : {passed : List ℕ} {dice after : D} {exchanges : List Exchange} (name : List ℕ)
        (row : SeedRow) → IsNextName names passed (Some name)
        → MakesSeedBy left count name dice (Ok row) after exchanges
        → MakesSeedsBy names passed dice (Err publishing.NoMemory) after exchanges
    went_on : {passed : List ℕ} {dice between after : D} {exchanges others : List Exchange}
        {result : Result (List SeedRow) PublishNo} (name : List ℕ) (row : SeedRow)
        → IsNextName names passed (Some name)
        → MakesSeedBy left count name dice (Ok row) between exchanges
        → MakesSeedsBy names name between result after others
        → MakesSeedsBy names passed dice (with_seed_first row result) after (exchanges ++ others)

  -- all plugins that the entries name
  abbrev pub PublishesBy : List ConfigEntry → D → Result Publication PublishNo → D → List Exchange
      → Type 0
  PublishesBy rows dice (Ok p) after exchanges = (p.rows ≡ rows)
      × MakesSeedsBy (plugins_in rows) [] dice (Ok p.seeds) after exchanges
  PublishesBy rows dice (Err why) after exchanges =
      MakesSeedsBy (plugins_in rows) [] dice (Err why) after exchanges

-- ---- unsealing

-- why the source of an object of the plugin of this name isn't had
abbrev pub LacksSource : {T : Type 0} → (name : List ℕ) → KmsNo → Result T UnsealNo → Type 0
LacksSource name kms.Failed result = result ≡ Err (PluginFailed name)
LacksSource name kms.NoMemory result = result ≡ Err NoMemory

-- the answer by what was fetched as the source of the value's object
abbrev pub AnswersByFetch : List SeedRow → List Who → (path bytes name : List ℕ) → EncryptedObject
    → Result (List ℕ) KmsNo → Result Opened UnsealNo → Type 0
AnswersByFetch seeds list path bytes name object (Ok source) result =
    Unseals (record { object = Ok object; source = Some source }) seeds list path bytes result
AnswersByFetch seeds list path bytes name object (Err why) result = LacksSource name why result

-- nothing was asked where there was no memory, or no plugin had to be: none reads the value, or
-- its object is refused, or a published seed is the object's. Else the object's source was fetched
-- through the cache, of the plugin that reads the value
pub data ReadsBy (seeds : List SeedRow) (list : List Who) (path bytes : List ℕ) (cache : CacheState)
    (result : Result Opened UnsealNo) (after : CacheState) : List Exchange → Type 0 where
  no_memory : result ≡ Err NoMemory → after ≡ cache
      → ReadsBy seeds list path bytes cache result after []
  unasked : (envelope : Envelope) → HasObject (reader_in list bytes) bytes envelope.object
      → TakesSeed seeds (reader_in list bytes) envelope → HasNoSource envelope
      → (MayAskPlugin seeds (reader_in list bytes) envelope.object → ⊥)
      → Unseals envelope seeds list path bytes result → after ≡ cache
      → ReadsBy seeds list path bytes cache result after []
  fetched : {exchanges : List Exchange} (name : List ℕ) (object : EncryptedObject)
      (source : Result (List ℕ) KmsNo) → reader_in list bytes ≡ Some (Kms name)
      → IsObjectOf name bytes (Ok object) → MayAskFor seeds name object
      → FetchesBy (seed_key name object) cache source after exchanges
      → AnswersByFetch seeds list path bytes name object source result
      → ReadsBy seeds list path bytes cache result after exchanges
