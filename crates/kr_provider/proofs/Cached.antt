-- A source that the cache has is given without asking a link, and is that of the value's reading.
use Rattle.std.specs.Prelude.{not, ◌&&◌}
use Rattle.std.proofs.Common.{◌≡◌, ℕ, Bool, false, List, ◌∷◌, ◌++◌, Option, Some, None, Result, Ok, Err, sym, ◌∙◌, ap, subst}
use Rattle.std.proofs.lemmas.Bool.{false≢true}
use Rattle.kr_config.specs.declared.who.Who.{Who}
use Rattle.kr_config.specs.declared.who.Who.TheVariants.{Kms}
use Rattle.kr_config.specs.Providers.{is_kms}
use Rattle.kr_envelope.specs.declared.object.EncryptedObject.{EncryptedObject}
use Rattle.kr_envelope.specs.declared.object.ObjectNo.{ObjectNo}
use Rattle.kr_envelope.specs.Limits.{ReadsMessage}
use Rattle.kr_envelope.proofs.OneReading as objects
use Rattle.kr_kms.specs.Cache.{CacheState, GivesSeed, seed_at}
use Rattle.kr_kms.specs.Calls.{Link}
use Rattle.kr_kms.specs.declared.plugin.KmsNo.{KmsNo}
use Rattle.kr_kms.specs.declared.seeds.SeedKey.{SeedKey}
use Rattle.kr_kms.specs.declared.seeds.SeedRow.{SeedRow}
use Rattle.kr_provider.specs.Envelopes.{Envelope, seed_key}
use Rattle.kr_provider.specs.Publication.{seed_of}
use Rattle.kr_provider.specs.Readers.{body_by, reader_in}
use Rattle.kr_provider.specs.Reading.{Unseals, is_current, provider_reading, reader_reading, source_reading, value_reading}
use Rattle.kr_provider.specs.Unsealing.{HeedsCache, IsSeedOf, MayAskFor}
use Rattle.kr_provider.specs.declared.refusal.Opened.{Opened}
use Rattle.kr_provider.specs.declared.refusal.UnsealNo.{UnsealNo}
use Rattle.kr_provider.specs.declared.refusal.UnsealNo.TheVariants.{Refused, PluginFailed, NoMemory}
use Rattle.kr_provider.specs.inner.Sources.{Gives, GivesSource, IsObjectIn, IsReadBy}
use Rattle.kr_provider.proofs.ObjectSources.{IsFetched}
use Rattle.kr_provider.proofs.OneReading.{both_answered}
use Rattle.kr_provider.proofs.Places.{stale_by_plugin}

-- ---- the source

pub fetched_kept : {L : Type 0} (link : L → Link) (name : List ℕ)
    (found : EncryptedObject) (olds news : List L) (cache after : CacheState)
    (result : Result (List ℕ) KmsNo)
    → IsFetched link name found olds news cache after result → (source : List ℕ)
    → seed_at cache.rows (seed_key name found) ≡ Some source
    → (news ≡ olds) × GivesSeed source result
fetched_kept link name found olds news cache after result a source is = (
  a.news_are ∙ ap (λ n. a.front ++ n ∷ a.behind) (a.asks.kept source is).0 ∙ sym a.olds_are,
  (a.asks.kept source is).1,
)

-- ---- the data under it

pub source_lacks : (found : EncryptedObject) (path source : List ℕ) (why : UnsealNo)
    → GivesSource source (Err why)
    → Gives (source_reading found.kind source path found.encrypted) (Err why)
source_lacks found path source NoMemory g = tt
source_lacks found path source other g = absurd g

pub source_serves : (found : EncryptedObject) (path source opened : List ℕ)
    (result : Result (List ℕ) UnsealNo) → opened ≡ source
    → Gives (source_reading found.kind opened path found.encrypted) result
    → Gives (source_reading found.kind source path found.encrypted) result
source_serves found path source opened result same g =
    subst (λ s. Gives (source_reading found.kind s path found.encrypted) result) same g

-- ---- the value

abbrev pub under : EncryptedObject → List ℕ → Envelope
under object source = record { object = Ok object; source = Some source }

-- bytes spell one object alone
one_object : (body : List ℕ) (a b : EncryptedObject) → ReadsMessage body (Ok a) → ReadsMessage body (Ok b)
    → a ≡ b
one_object body a b r s =
    let same : ◌≡◌ {A = Result EncryptedObject ObjectNo} (Ok a) (Ok b) =
    both_answered (Ok a) (Ok b) (λ e. cc) (λ e. cc) (objects.one_reading body (Ok a) (Ok b) r s) in
    cc

module _ {L : Type 0} (rows : List (SeedKey × List ℕ)) (seeds : List SeedRow) (list : List Who)
    (path bytes : List ℕ) (olds news : List L) where
  -- no provider reads the value
  pub unread_heeds : (result : Result Opened UnsealNo) → reader_in list bytes ≡ None
      → HeedsCache rows seeds list path bytes olds result news
  unread_heeds result none name object source reader has is =
      let absent : ◌≡◌ {A = Option Who} None (Some (Kms name)) = sym none ∙ reader in absurd (cc)

  -- a provider that is no plugin does
  pub key_heeds : (who : Who) (body : List ℕ) (first : Bool) (result : Result Opened UnsealNo)
      → is_kms who ≡ false → IsReadBy list bytes who body first
      → HeedsCache rows seeds list path bytes olds result news
  key_heeds who body first result kms r name object source reader has is =
      let same : ◌≡◌ {A = Option Who} (Some who) (Some (Kms name)) = sym r.reader ∙ reader in
      let one : who ≡ Kms name = cc in absurd (false≢true (sym kms ∙ ap is_kms one))

  module _ (name body : List ℕ) (first : Bool) (r : IsReadBy list bytes (Kms name) body first)
    where
      by_plugin : (result : Result Opened UnsealNo)
          → ((object : EncryptedObject) (source : List ℕ) → ReadsMessage body (Ok object)
          → seed_at rows (seed_key name object) ≡ Some source
          → (news ≡ olds) × (MayAskFor seeds name object
          → Unseals (under object source) seeds list path bytes result))
          → HeedsCache rows seeds list path bytes olds result news
      by_plugin result at other object source reader has is =
          let both : ◌≡◌ {A = Option Who} (Some (Kms name)) (Some (Kms other)) =
          sym r.reader ∙ reader in
          let same : other ≡ name = cc in
          subst (λ n. (news ≡ olds) × (MayAskFor seeds n object
          → Unseals (under object source) seeds list path bytes result)) (sym same)
          (at object source
          (subst (λ b. ReadsMessage b (Ok object)) (sym r.body_is)
          (subst (λ n. ReadsMessage (body_by (Kms n) bytes) (Ok object)) same has.0))
          (subst (λ n. seed_at rows (seed_key n object) ≡ Some source) same is))

      -- its object isn't read
      pub object_heeds : (why : UnsealNo) → news ≡ olds → IsObjectIn body (Err why)
          → HeedsCache rows seeds list path bytes olds (Err why) news
      object_heeds why stay i = by_plugin (Err why) (λ object source reads is. (
        stay,
        λ may. at why i object source reads,
      ))
        where
          at : (why : UnsealNo) → IsObjectIn body (Err why) → (object : EncryptedObject)
              (source : List ℕ) → ReadsMessage body (Ok object)
              → Unseals (under object source) seeds list path bytes (Err why)
          at (Refused why) (breach, s, (is, n)) object source reads =
              let same : ◌≡◌ {A = Result EncryptedObject ObjectNo} (Ok object) (Err breach) =
              both_answered (Ok object) (Err breach) (λ e. cc) (λ e. n (cc))
              (objects.one_reading body (Ok object) (Err breach) reads s) in absurd (cc)
          at (PluginFailed failed) i object source reads = absurd i
          at NoMemory i object source reads = tt

      module _ (row : SeedRow) (is_row : seed_of name seeds ≡ Some row) (found : EncryptedObject)
          (spells : ReadsMessage body (Ok found))
          (gave : Result (List ℕ) UnsealNo)
          (cached : (source : List ℕ) → seed_at rows (seed_key name found) ≡ Some source
          → (news ≡ olds) × ((IsSeedOf row name found → ⊥)
          → Gives (source_reading found.kind source path found.encrypted) gave)) where
        value_is : (source : List ℕ) → value_reading (under found source) list path bytes
            ≡ source_reading found.kind source path found.encrypted
        value_is source = ap (λ o. reader_reading (under found source) o path bytes) r.reader
            ∙ ap (provider_reading (under found source) (Kms name) path) (sym r.body_is)

        by_object : (result : Result Opened UnsealNo)
            → ((source : List ℕ)
            → Gives (source_reading found.kind source path found.encrypted) gave
            → Unseals (under found source) seeds list path bytes result)
            → HeedsCache rows seeds list path bytes olds result news
        by_object result reads = by_plugin result (λ object source s is.
            let same = one_object body found object spells s in
            let given = cached source
            (subst (λ o. seed_at rows (seed_key name o) ≡ Some source) (sym same) is) in (
              given.0,
              λ may. subst (λ o. Unseals (under o source) seeds list path bytes result) same
                  (reads source (given.1
                  (λ own. may row is_row (subst (λ o. IsSeedOf row name o) same own)))),
            ))

        -- the data aren't had
        pub failed_heeds : (why : UnsealNo) → gave ≡ Err why
            → HeedsCache rows seeds list path bytes olds (Err why) news
        failed_heeds why is = by_object (Err why) (λ source g. at why source
            (subst (λ x. Gives (source_reading found.kind source path found.encrypted) x) is g))
          where
            at : (why : UnsealNo) (source : List ℕ)
                → Gives (source_reading found.kind source path found.encrypted) (Err why)
                → Unseals (under found source) seeds list path bytes (Err why)
            at (Refused why) source g = value_is source ∙ g
            at (PluginFailed failed) source g = absurd g
            at NoMemory source g = tt

        -- or they are
        pub opened_heeds : (plain : List ℕ) (stale : Bool) → gave ≡ Ok plain
            → stale ≡ not (first && is_current (Some row) (Ok found))
            → HeedsCache rows seeds list path bytes olds
            (Ok (record { plain = plain; stale = stale })) news
        opened_heeds plain stale is stale_is = by_object
            (Ok (record { plain = plain; stale = stale })) (λ source g. (
              value_is source
                  ∙ subst (λ x. Gives (source_reading found.kind source path found.encrypted) x) is g,
              stale_is ∙ sym (stale_by_plugin found (Some source) seeds row list bytes body name
                  first is_row r),
            ))
