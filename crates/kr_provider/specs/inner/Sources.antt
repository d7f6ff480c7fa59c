-- How a plugin's value is read, step by step: its object, its object's source, its data.
use Rattle.std.specs.Prelude.{◌≡◌, ◌≢◌, ◌⊎◌, ℕ, Bool, true, List, [], ◌∷◌, Some, Result, Ok, Err, ⊤}
use Rattle.kr_config.specs.declared.who.Who.{Who}
use Rattle.kr_envelope.specs.declared.object.EncryptedObject.{EncryptedObject}
use Rattle.kr_envelope.specs.declared.object.ObjectNo.{ObjectNo}
use Rattle.kr_envelope.specs.declared.object.ObjectNo.TheVariants as object
use Rattle.kr_envelope.specs.Limits.{ReadsMessage}
use Rattle.kr_kms.specs.Cache.{CacheState, FetchesBy}
use Rattle.kr_kms.specs.Calls.{Link}
use Rattle.kr_kms.specs.Exchanges.{Exchange}
use Rattle.kr_kms.specs.declared.plugin.KmsNo.{KmsNo}
use Rattle.kr_kms.specs.declared.seeds.SeedRow.{SeedRow}
use Rattle.kr_provider.specs.AskedLinks.{AskedOnly, FaultRose}
use Rattle.kr_provider.specs.Envelopes.{seed_key}
use Rattle.kr_provider.specs.Exchanges.{LacksSource}
use Rattle.kr_provider.specs.Readers.{body_by, is_reader, reader_in, writer_of}
use Rattle.kr_provider.specs.Reading.{Reading, data_of, object_refusal, refused, source_reading}
use Rattle.kr_provider.specs.Unsealing.{IsSeedOf}
use Rattle.kr_provider.specs.declared.refusal.UnsealNo.{UnsealNo}
use Rattle.kr_provider.specs.declared.refusal.UnsealNo.TheVariants.{Refused, PluginFailed, NoMemory}

-- the answer is what is read, or there is no memory
abbrev pub Gives : Reading → Result (List ℕ) UnsealNo → Type 0
Gives reading (Ok plain) = reading ≡ data_of plain
Gives reading (Err (Refused why)) = reading ≡ refused why
Gives reading (Err (PluginFailed name)) = ⊥
Gives reading (Err NoMemory) = ⊤

-- the refusal is the object's
abbrev pub IsRefusalOf : ObjectNo → UnsealNo → Type 0
IsRefusalOf why (Refused refusal) = (object_refusal why ≡ refused refusal) × (why ≢ object.NoMemory)
IsRefusalOf why (PluginFailed name) = ⊥
IsRefusalOf why NoMemory = ⊤

-- the object that the bytes spell, or why there is none
abbrev pub IsObjectIn : List ℕ → Result EncryptedObject UnsealNo → Type 0
IsObjectIn body (Ok found) = ReadsMessage body (Ok found)
IsObjectIn body (Err (Refused refusal)) =
    (why : ObjectNo) × ReadsMessage body (Err why) × IsRefusalOf why (Refused refusal)
IsObjectIn body (Err (PluginFailed name)) = ⊥
IsObjectIn body (Err NoMemory) = ⊤

-- the source of an object: where the published seed is the object's, that seed
abbrev pub IsSourceOf : SeedRow → (name : List ℕ) → EncryptedObject → (source : List ℕ) → Type 0
IsSourceOf row name found source = IsSeedOf row name found → source ≡ row.seed

-- the plugin failed, which was asked for the source of an object since the published seed is
-- another
pub record FailsToOpen {L : Type 0} (link : L → Link) (row : SeedRow) (name : List ℕ)
    (found : EncryptedObject) (old : List L) (failed : List ℕ) (new : List L) : Type 0 where
  pub name_is : failed ≡ name
  pub other : IsSeedOf row name found → ⊥
  pub rose : FaultRose link name old new
  pub asked : AskedOnly link (name ∷ []) old new

-- what an object holds by such a source
pub record ReadsObject {L : Type 0} (link : L → Link) (row : SeedRow)
    (name : List ℕ) (found : EncryptedObject) (path : List ℕ) (old : List L)
    (result : Result (List ℕ) UnsealNo) (new : List L) : Type 0 where
  pub source : List ℕ
  pub is : IsSourceOf row name found source
  pub gives : Gives (source_reading found.kind source path found.encrypted) result
  pub asked : AskedOnly link (name ∷ []) old new
  pub unasked : (new ≡ old) ⊎ (IsSeedOf row name found → ⊥)

module _ {L : Type 0} (link : L → Link) (name : List ℕ)
    (found : EncryptedObject) where
  -- the plugin was asked to unwrap the source
  abbrev pub OpensSource : List L → Result (List ℕ) UnsealNo → List L → Type 0
  OpensSource old (Ok source) new = AskedOnly link (name ∷ []) old new
  OpensSource old (Err (Refused why)) new = ⊥
  OpensSource old (Err (PluginFailed failed)) new = (failed ≡ name)
      × FaultRose link name old new × AskedOnly link (name ∷ []) old new
  OpensSource old (Err NoMemory) new = AskedOnly link (name ∷ []) old new

-- this source is given, as far as there is memory for it
abbrev pub GivesSource : List ℕ → Result (List ℕ) UnsealNo → Type 0
GivesSource source (Ok bytes) = bytes ≡ source
GivesSource source (Err (Refused why)) = ⊥
GivesSource source (Err (PluginFailed name)) = ⊥
GivesSource source (Err NoMemory) = ⊤

module _ {L : Type 0} (link : L → Link) (row : SeedRow) (name : List ℕ)
    (found : EncryptedObject) where
  abbrev pub UnsealsObject : (path : List ℕ) → List L → Result (List ℕ) UnsealNo → List L → Type 0
  UnsealsObject path old (Ok plain) new =
      ReadsObject link row name found path old (Ok plain) new
  UnsealsObject path old (Err (Refused why)) new =
      ReadsObject link row name found path old (Err (Refused why)) new
  UnsealsObject path old (Err (PluginFailed failed)) new =
      FailsToOpen link row name found old failed new
  UnsealsObject path old (Err NoMemory) new = AskedOnly link (name ∷ []) old new
      × ((new ≡ old) ⊎ (IsSeedOf row name found → ⊥))

-- the provider reads the value by a list; whether it is the list's first
pub record IsReadBy (list : List Who) (bytes : List ℕ) (who : Who) (body : List ℕ) (first : Bool)
    : Type 0 where
  pub reader : reader_in list bytes ≡ Some who
  pub body_is : body ≡ body_by who bytes
  pub first_is : is_reader bytes (writer_of list) ≡ first
  pub writer : first ≡ true → writer_of list ≡ who

-- ---- by which exchanges

-- the source that was fetched, or why there is none
abbrev pub IsSourceOr : (name : List ℕ) → Result (List ℕ) KmsNo → Result (List ℕ) UnsealNo → Type 0
IsSourceOr name (Ok source) result = result ≡ Ok source
IsSourceOr name (Err why) result = LacksSource name why result

-- the source of an object of the plugin of this name was fetched through the cache; or there was no
-- memory for the name, and nothing was asked
abbrev pub OpensSourceBy : (name : List ℕ) → EncryptedObject → CacheState
    → Result (List ℕ) UnsealNo → CacheState → List Exchange → Type 0
OpensSourceBy name found cache result after exchanges =
    ((result ≡ Err NoMemory) × (after ≡ cache) × (exchanges ≡ [])) ⊎
    ((source : Result (List ℕ) KmsNo)
    × FetchesBy (seed_key name found) cache source after exchanges × IsSourceOr name source result)

-- the data under the source that was fetched, or why there is none
abbrev pub GivesByFetch : (name : List ℕ) → EncryptedObject → (path : List ℕ)
    → Result (List ℕ) KmsNo → Result (List ℕ) UnsealNo → Type 0
GivesByFetch name found path (Ok source) result =
    Gives (source_reading found.kind source path found.encrypted) result
GivesByFetch name found path (Err why) result = LacksSource name why result

-- by the published seed, where that is the object's; else by its source, which was fetched, or
-- there was no memory to ask for it
pub data UnsealsObjectBy (row : SeedRow) (name : List ℕ) (found : EncryptedObject) (path : List ℕ)
    (cache : CacheState) (result : Result (List ℕ) UnsealNo) (after : CacheState)
    : List Exchange → Type 0 where
  by_published : IsSeedOf row name found
      → Gives (source_reading found.kind row.seed path found.encrypted) result → after ≡ cache
      → UnsealsObjectBy row name found path cache result after []
  by_fetch : {exchanges : List Exchange} (source : Result (List ℕ) KmsNo)
      → (IsSeedOf row name found → ⊥) → FetchesBy (seed_key name found) cache source after exchanges
      → GivesByFetch name found path source result
      → UnsealsObjectBy row name found path cache result after exchanges
  unasked_for : (IsSeedOf row name found → ⊥) → result ≡ Err NoMemory → after ≡ cache
      → UnsealsObjectBy row name found path cache result after []
