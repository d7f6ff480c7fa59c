-- The exchanges by which a value is read.
use Rattle.std.proofs.Common.{◌≡◌, ◌≢◌, ℕ, Bool, List, [], Option, Some, None, Result, Ok, Err, refl, sym, ◌∙◌, ap, subst, inl, inr}
use Rattle.std.specs.Prelude.{◌&&◌, not, IfSome}
use Rattle.kr_base.specs.Walks.{Talk}
use Rattle.kr_base.proofs.Walks.{talk_none}
use Rattle.kr_config.specs.declared.who.Who.{Who}
use Rattle.kr_config.specs.declared.who.Who.TheVariants.{Kms}
use Rattle.kr_envelope.specs.declared.object.EncryptedObject.{EncryptedObject}
use Rattle.kr_envelope.specs.declared.object.ObjectNo.{ObjectNo}
use Rattle.kr_envelope.specs.declared.object.ObjectNo.TheVariants as object
use Rattle.kr_envelope.specs.Limits.{ReadsMessage}
use Rattle.kr_kms.specs.Cache.{CacheState}
use Rattle.kr_kms.specs.Calls.{Link}
use Rattle.kr_kms.specs.Exchanges.{Exchange}
use Rattle.kr_kms.specs.declared.plugin.KmsNo.{KmsNo}
use Rattle.kr_kms.specs.declared.plugin.KmsNo.TheVariants as kms
use Rattle.kr_kms.specs.declared.seeds.SeedRow.{SeedRow}
use Rattle.kr_provider.specs.Envelopes.{Envelope, HasObject, IsObjectOf}
use Rattle.kr_provider.specs.Exchanges.{AnswersByFetch, LacksSource, ReadsBy, fetched, no_memory, unasked}
use Rattle.kr_provider.specs.Publication.{Publication, list_at, seed_of}
use Rattle.kr_provider.specs.Readers.{reader_in}
use Rattle.kr_provider.specs.Reading.{Unseals, is_current, provider_reading, reader_reading, source_reading, value_reading}
use Rattle.kr_provider.specs.Unsealing.{IsSeedOf, MayAskPlugin, TakesSeed, UnsealsBy}
use Rattle.kr_provider.specs.declared.refusal.Opened.{Opened}
use Rattle.kr_provider.specs.declared.refusal.UnsealNo.{UnsealNo}
use Rattle.kr_provider.specs.declared.refusal.UnsealNo.TheVariants.{Refused, PluginFailed, NoMemory}
use Rattle.kr_provider.specs.inner.Sources.{GivesByFetch, Gives, IsObjectIn, IsReadBy, OpensSourceBy, UnsealsObjectBy, by_fetch, by_published, unasked_for}
use Rattle.kr_provider.proofs.OneReading.{IsNoPlugin}
use Rattle.kr_provider.proofs.Places.{stale_by_plugin}

-- ---- the source of an object

module _ (row : SeedRow) (name : List ℕ) (found : EncryptedObject) (path : List ℕ) (cache after : CacheState) (es : List Exchange)
    (another : IsSeedOf row name found → ⊥) where
  -- the data under a source that was fetched
  pub data_fetched : (source : List ℕ) (result : Result (List ℕ) UnsealNo) → OpensSourceBy name found cache (Ok source) after es
      → Gives (source_reading found.kind source path found.encrypted) result → UnsealsObjectBy row name found path cache result after es
  data_fetched source result (inl (none, same, is)) gives = absurd (cc)
  data_fetched source result (inr (Ok given, fetches, told)) gives =
      let same : source ≡ given = cc in
      by_fetch (Ok given) another fetches (subst (λ s. Gives (source_reading found.kind s path found.encrypted) result) same gives)
  data_fetched source result (inr (Err kms.Failed, fetches, told)) gives = absurd (cc)
  data_fetched source result (inr (Err kms.NoMemory, fetches, told)) gives = absurd (cc)

  -- none was
  pub none_fetched : (why : UnsealNo) → OpensSourceBy name found cache (Err why) after es → UnsealsObjectBy row name found path cache (Err why) after es
  none_fetched why (inl (none, same, is)) =
      subst (UnsealsObjectBy row name found path cache (Err why) after) (sym is) (unasked_for another none same)
  none_fetched why (inr (Ok given, fetches, told)) = absurd (cc)
  none_fetched why (inr (Err kms.Failed, fetches, told)) = by_fetch (Err kms.Failed) another fetches told
  none_fetched why (inr (Err kms.NoMemory, fetches, told)) = by_fetch (Err kms.NoMemory) another fetches told

-- ---- the value

-- the data with what is stale
abbrev pub opened_as : Bool → Result (List ℕ) UnsealNo → Result Opened UnsealNo
opened_as stale (Ok plain) = Ok (record { plain = plain; stale = stale })
opened_as stale (Err why) = Err why

no_asking : (seeds : List SeedRow) (reader : Option Who) (found : Result EncryptedObject ObjectNo) → IsNoPlugin reader → MayAskPlugin seeds reader found → ⊥
no_asking seeds (Some (Kms name)) found n m = absurd (cc)
no_asking seeds other found n m = m

module _ (seeds : List SeedRow) (list : List Who) (path bytes : List ℕ) (cache : CacheState) where
  -- no plugin reads it
  pub read_bare : {L : Type 0} (link : L → Link) (links : List L) (result : Result Opened UnsealNo) → IsNoPlugin (reader_in list bytes)
      → UnsealsBy link seeds list path bytes links result links → ReadsBy seeds list path bytes cache result cache []
  read_bare link links (Ok opened) n u =
      unasked u.envelope u.object u.published u.unsourced (no_asking seeds (reader_in list bytes) u.envelope.object n) u.is refl
  read_bare link links (Err (Refused why)) n u =
      unasked u.envelope u.object u.published u.unsourced (no_asking seeds (reader_in list bytes) u.envelope.object n) u.is refl
  read_bare link links (Err (PluginFailed name)) n u =
      let no : IsNoPlugin (Some (Kms name)) = subst IsNoPlugin u.reader n in absurd (cc)
  read_bare link links (Err NoMemory) n u = no_memory refl refl

  module _ (name body : List ℕ) (first : Bool) (r : IsReadBy list bytes (Kms name) body first) where
    by_reader : (envelope : Envelope) → value_reading envelope list path bytes ≡ provider_reading envelope (Kms name) path body
    by_reader envelope = ap (λ o. reader_reading envelope o path bytes) r.reader
        ∙ ap (provider_reading envelope (Kms name) path) (sym r.body_is)

    spelled : (answer : Result EncryptedObject ObjectNo) → ReadsMessage body answer → answer ≢ Err object.NoMemory → IsObjectOf name bytes answer
    spelled answer s n = (subst (λ b. ReadsMessage b answer) r.body_is s, n)

    -- its object isn't read
    pub read_refused : (why : UnsealNo) → IsObjectIn body (Err why) → ReadsBy seeds list path bytes cache (Err why) cache []
    read_refused (Refused why) (breach, s, (is, n)) =
        let envelope : Envelope = record { object = Err breach; source = None } in
        unasked envelope
        (subst (λ o. HasObject o bytes (Err breach)) (sym r.reader) (spelled (Err breach) s (λ e. n (cc))))
        (subst (λ o. TakesSeed seeds o envelope) (sym r.reader) (λ found row e. absurd (cc)))
        (λ why is. refl)
        (λ m. subst (λ o. MayAskPlugin seeds o (Err breach)) r.reader m)
        (by_reader envelope ∙ is) refl
    read_refused (PluginFailed failed) i = absurd i
    read_refused NoMemory i = no_memory refl refl

    pub talk_refused : {S : Type 0} (step : S → Exchange → S → Type 0) (links : S) (why : UnsealNo) → IsObjectIn body (Err why)
        → Talk step links links (ReadsBy seeds list path bytes cache (Err why) cache)
    talk_refused step links why i = talk_none step _ links (read_refused why i)

    module _ (row : SeedRow) (is_row : seed_of name seeds ≡ Some row) (found : EncryptedObject) (s : ReadsMessage body (Ok found))
        (stale : Bool) (stale_is : stale ≡ not (first && is_current (Some row) (Ok found))) where
      abbrev under : List ℕ → Envelope
      under source = record { object = Ok found; source = Some source }

      one_row : (other : SeedRow) → seed_of name seeds ≡ Some other → other ≡ row
      one_row other e = let same : Some other ≡ Some row = sym e ∙ is_row in cc

      object_is : IsObjectOf name bytes (Ok found)
      object_is = spelled (Ok found) s (λ e. cc)

      unseals : (source : List ℕ) (gave : Result (List ℕ) UnsealNo) → Gives (source_reading found.kind source path found.encrypted) gave
          → Unseals (under source) seeds list path bytes (opened_as stale gave)
      unseals source (Ok plain) g = (
        by_reader (under source) ∙ g,
        stale_is ∙ sym (stale_by_plugin found (Some source) seeds row list bytes body name first is_row r),
      )
      unseals source (Err (Refused why)) g = by_reader (under source) ∙ g
      unseals source (Err (PluginFailed failed)) g = absurd g
      unseals source (Err NoMemory) g = tt

      lacks : (why : KmsNo) (gave : Result (List ℕ) UnsealNo) → LacksSource name why gave → LacksSource name why (opened_as stale gave)
      lacks kms.Failed gave e = ap (opened_as stale) e
      lacks kms.NoMemory gave e = ap (opened_as stale) e

      answers : (source : Result (List ℕ) KmsNo) (gave : Result (List ℕ) UnsealNo) → GivesByFetch name found path source gave
          → AnswersByFetch seeds list path bytes name found source (opened_as stale gave)
      answers (Ok source) gave g = unseals source gave g
      answers (Err why) gave g = lacks why gave g

      -- or it is
      pub read_object : (gave : Result (List ℕ) UnsealNo) (after : CacheState) (es : List Exchange) → UnsealsObjectBy row name found path cache gave after es
          → ReadsBy seeds list path bytes cache (opened_as stale gave) after es
      read_object gave after _ (by_published own g same) =
          unasked (under row.seed)
          (subst (λ w. HasObject w bytes (Ok found)) (sym r.reader) object_is)
          (subst (λ w. TakesSeed seeds w (under row.seed)) (sym r.reader)
          (λ other q e f is. ap (λ (p : SeedRow). Some p.seed) (sym (one_row q f))))
          (λ why is. absurd (cc))
          (λ m. subst (λ w. MayAskPlugin seeds w (Ok found)) r.reader m row is_row own)
          (unseals row.seed gave g) same
      read_object gave after _ (unasked_for another none same) = no_memory (ap (opened_as stale) none) same
      read_object gave after es (by_fetch source another fetches g) =
          fetched name found source r.reader object_is
          (λ other e is. another (subst (λ o. IsSeedOf o name found) (one_row other e) is)) fetches (answers source gave g)

-- there was no memory for a copy of the value, and no link was asked
pub uncopied_talk : {L : Type 0} (step : List L → Exchange → List L → Type 0) (resource path bytes : List ℕ) (links : List L) (cache : CacheState)
    (o : Option Publication) → IfSome o (λ p. Talk step links links (ReadsBy p.seeds (list_at p resource) path bytes cache (Err NoMemory) cache))
uncopied_talk step resource path bytes links cache None = tt
uncopied_talk step resource path bytes links cache (Some p) = talk_none step _ links (no_memory refl refl)
