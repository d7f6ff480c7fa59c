-- What the definitions of sealing and reading promise together.
use Rattle.std.specs.Prelude.{◌≡◌, ◌↔◌, ℕ, ◌-◌, ◌≤◌, ◌<◌, false, true, IsTrue, List, take, drop, length, All, Contains, Option, Some, Result, Ok, ⊤}
use Rattle.std.specs.List.{list_any}
use Rattle.std.specs.Io.KnownBytes.{Consumes}
use Rattle.kr_base.specs.Limits.{value_limit}
use Rattle.kr_modes.specs.Gcm.{gcm_tag}
use Rattle.kr_envelope.specs.declared.object.EncryptedObject.{EncryptedObject}
use Rattle.kr_envelope.specs.declared.object.SourceKind.{SourceKind}
use Rattle.kr_envelope.specs.declared.object.SourceKind.TheVariants.{Key, Seed}
use Rattle.kr_config.specs.declared.who.Who.{Who}
use Rattle.kr_config.specs.declared.who.Who.TheVariants.{Identity, Aescbc, Aesgcm, Kms}
use Rattle.kr_config.specs.Kept.{ConfigEntry, keeps_providers, plugins_in}
use Rattle.kr_config.specs.Lists.{list_of}
use Rattle.kr_config.specs.Providers.{is_kms}
use Rattle.kr_kms.specs.declared.seeds.SeedRow.{SeedRow}
use Rattle.kr_kms.specs.Calls.{Link, IsSameLink}
use Rattle.kr_kms.specs.Opens.{Opens}
use Rattle.kr_provider.specs.AskedLinks.{AskedOnly, FaultRose}
use Rattle.kr_provider.specs.Ciphers.{cipher_under}
use Rattle.kr_provider.specs.Envelopes.{Envelope, sealed_object, unknown, value_key}
use Rattle.kr_provider.specs.PluginOrder.{MakesBefore, MakesEach, plugin_order}
use Rattle.kr_provider.specs.Publication.{Publication, IsPublished, SeedOpens, names_plugin, seed_of, writer_at}
use Rattle.kr_provider.specs.Publishing.{AreSeedsOf, EndsAt, bytes_of_seeds}
use Rattle.kr_provider.specs.Readers.{reader_in, body_by}
use Rattle.kr_provider.specs.Reading.{Reading, data_of, refused, unopened, value_reading, HasReading, HasSomeReading, Unseals}
use Rattle.kr_provider.specs.Unsealing.{UnsealsBy}
use Rattle.kr_provider.specs.declared.refusal.Opened.{Opened}
use Rattle.kr_provider.specs.declared.refusal.UnsealNo.{UnsealNo}
use Rattle.kr_provider.specs.Sealing.{IsBytes, IsSealing, draw_size, sealed_by, value_size}

-- the envelope is that of a value that was sealed: a plugin's has the object that was written, and
-- its seed
abbrev pub IsSealedEnvelope : List SeedRow → Who → (path plain drawn : List ℕ) → Envelope → Type 0
IsSealedEnvelope seeds Identity path plain drawn envelope = ⊤
IsSealedEnvelope seeds (Aescbc name secret) path plain drawn envelope = ⊤
IsSealedEnvelope seeds (Aesgcm name secret) path plain drawn envelope = ⊤
IsSealedEnvelope seeds (Kms name) path plain drawn envelope = (row : SeedRow)
    × (seed_of name seeds ≡ Some row) × (length row.seed ≡ 32)
    × (envelope.object ≡ Ok (sealed_object row path plain drawn))
    × (envelope.source ≡ Some row.seed)

-- what a provider sealed reads as the data at that path, by every list that holds the provider
abbrev pub SealedReads : Type 0
SealedReads = (seeds : List SeedRow) (list : List Who) (who : Who) (path plain drawn value : List ℕ)
    (envelope : Envelope)
    → IsTrue (keeps_providers list) → Contains list who → IsBytes (draw_size who) drawn
    → All (λ byte. byte < 256) plain
    → sealed_by seeds who path plain drawn ≡ Some value
    → IsSealedEnvelope seeds who path plain drawn envelope
    → value_reading envelope list path value ≡ data_of plain

-- a sealing by a published configuration reads as its data and as nothing else, by each list that
-- holds its provider, where the seed of that, if it is a plugin, opens
abbrev pub SealingReads : Type 0
SealingReads = (opens : Opens) (p : Publication) (list : List Who)
    (resource path plain value : List ℕ) (reading : Reading)
    → IsPublished p → SeedOpens opens p.seeds (writer_at p resource)
    → IsTrue (keeps_providers list)
    → Contains list (writer_at p resource)
    → IsSealing p resource path plain value → HasReading opens list path value reading
    ↔ (reading ≡ data_of plain)

-- how long a value is that a provider sealed; of a published configuration's values none is longer
-- than what is unsealed
pub record SealingIsSized : Type 0 where
  pub size : (seeds : List SeedRow) (who : Who) (path plain drawn value : List ℕ)
      → IsBytes (draw_size who) drawn
      → sealed_by seeds who path plain drawn ≡ Some value
      → length value ≡ value_size seeds who (length plain)
  pub few : (p : Publication) (resource path plain value : List ℕ) → IsPublished p
      → IsSealing p resource path plain value → length value ≤ value_limit

-- a value has one reading alone
abbrev pub HasOneReading : Type 0
HasOneReading = (opens : Opens) (list : List Who) (path bytes : List ℕ) (a b : Reading)
    → HasReading opens list path bytes a → HasReading opens list path bytes b → a ≡ b

-- where a list names no plugin, what sources open to doesn't matter
abbrev pub ReadsWithoutPlugin : Type 0
ReadsWithoutPlugin = (opens : Opens) (list : List Who) (path bytes : List ℕ) (reading : Reading)
    → list_any is_kms list ≡ false
    → HasReading opens list path bytes reading ↔ (value_reading unknown list path bytes ≡ reading)

-- where settings name no plugin, no link is asked, and any envelope serves
pub record UnsealsWithoutPlugin {L : Type 0} (link : L → Link) : Type 0 where
  pub reads : (seeds : List SeedRow) (rows : List ConfigEntry) (resource path bytes : List ℕ)
      (olds news : List L) (result : Result Opened UnsealNo) → names_plugin rows ≡ false
      → UnsealsBy link seeds (list_of rows resource) path bytes olds result news
      → (envelope : Envelope)
      → Unseals envelope seeds (list_of rows resource) path bytes result
  pub stay : (seeds : List SeedRow) (rows : List ConfigEntry) (resource path bytes : List ℕ)
      (olds news : List L) (result : Result Opened UnsealNo) → names_plugin rows ≡ false
      → UnsealsBy link seeds (list_of rows resource) path bytes olds result news
      → news ≡ olds

-- publishing goes through the plugins by the order of their names: it makes the seeds of all, or
-- those of the names before the one that ended it
pub record PublishesInOrder {L D : Type 0} (link : L → Link)
    (left : D → Option (List ℕ)) (count : D → ℕ) : Type 0 where
  pub all : (rows : List ConfigEntry) (links : List L) (dice after : D) (made : List SeedRow)
      → AreSeedsOf link links (plugins_in rows) (λ name. true) made
      → Consumes (left dice) (left after) (bytes_of_seeds made)
      → MakesEach link links (plugin_order rows) made (left dice) (left after)
  pub some : (rows : List ConfigEntry) (links : List L) (dice after : D) (name drawn : List ℕ)
      → EndsAt link left count rows links dice after name drawn
      → MakesBefore link links (plugin_order rows) name drawn (left dice) (left after)

-- links that were asked are those of before: what is known of one after some calls, where it goes
-- by what stays, was known before them, and calls one after another are calls
pub record LinksStay {L : Type 0} (link : L → Link) (names : List (List ℕ)) : Type 0 where
  pub none : (links : List L) → AskedOnly link names links links
  pub both : (olds mids news : List L) → AskedOnly link names olds mids
      → AskedOnly link names mids news → AskedOnly link names olds news
  pub twin : (olds news : List L) (new : L) → AskedOnly link names olds news → Contains news new
      → (old : L) × Contains olds old × IsSameLink (link old) (link new)
  pub rose : (name : List ℕ) (olds mids news : List L) → AskedOnly link names olds mids
      → FaultRose link name mids news → FaultRose link name olds news

-- what a value reads as by what sources open to, it reads as with some unwrapped source
abbrev pub ReadsSomehow : Type 0
ReadsSomehow = (opens : Opens) (list : List Who) (path bytes : List ℕ) (reading : Reading)
    → HasReading opens list path bytes reading → HasSomeReading list path bytes reading

abbrev pub IsData : Reading → Type 0
IsData (data_of plain) = ⊤
IsData (refused why) = ⊥
IsData unopened = ⊥

-- the body is as long as a nonce of 12 bytes and a tag, and its last 16 bytes are the path's tag
abbrev pub HasTagOf : (key path body : List ℕ) → Type 0
HasTagOf key path body =
    let sealed = drop 12 body in
    let size = length sealed - 16 in
    (28 ≤ length body) × (drop size sealed
    ≡ gcm_tag (cipher_under key) (take 12 body) path (take size sealed))

-- the same of a plugin's value: a source of type 0 is the key; of type 1 it is a seed, which makes
-- the key by the info in front of the body
abbrev pub HasTagUnder : SourceKind → (source path encrypted : List ℕ) → Type 0
HasTagUnder Key key path encrypted = HasTagOf key path encrypted
HasTagUnder Seed seed path encrypted =
    HasTagOf (value_key seed (take 32 encrypted)) path (drop 32 encrypted)

-- the object's source was unwrapped, to 32 bytes, under which it has the path's tag
abbrev pub HasTagIn : Envelope → (path : List ℕ) → Type 0
HasTagIn envelope path = (object : EncryptedObject) × (source : List ℕ)
    × (envelope.object ≡ Ok object) × (envelope.source ≡ Some source) × (length source ≡ 32)
    × HasTagUnder object.kind source path object.encrypted

-- a value that is sealed with its path reads as data at a path exactly where it has that path's tag
pub record ReadsUnderItsTag : Type 0 where
  pub aesgcm : (envelope : Envelope) (list : List Who) (name secret path bytes : List ℕ)
      → reader_in list bytes ≡ Some (Aesgcm name secret)
      → IsData (value_reading envelope list path bytes)
      ↔ HasTagOf secret path (body_by (Aesgcm name secret) bytes)
  pub kms : (envelope : Envelope) (list : List Who) (name path bytes : List ℕ)
      → reader_in list bytes ≡ Some (Kms name)
      → IsData (value_reading envelope list path bytes) ↔ HasTagIn envelope path
