-- By which exchanges with plugins, exactly, the calls end that ask any: the last argument is their
-- list.
use Rattle.std.specs.Prelude.{◌≡◌, ◌≢◌, ◌⊎◌, ℕ, Bool, true, false, List, [], ◌∷◌, ◌++◌, Option, Some, Result, Ok, Err}
use Rattle.kr_config.specs.Kept.{ConfigEntry as settings_row}
use Rattle.kr_kms.specs.Cache.{CacheState}
use Rattle.kr_kms.specs.Exchanges.{Exchange}
use Rattle.kr_kms.specs.declared.seeds.SeedRow.{SeedRow}
use Rattle.kr_provider.specs.Exchanges.{PublishesBy, ReadsBy, TellsKeyIdAt}
use Rattle.kr_provider.specs.Publication.{Publication, list_at}
use Rattle.kr_provider.specs.declared.refusal.Opened.{Opened}
use Rattle.kr_provider.specs.declared.refusal.PublishNo.{PublishNo}
use Rattle.kr_provider.specs.declared.refusal.UnsealNo.{UnsealNo}
use Rattle.kr_store.specs.declared.rows.Row.{Row}
use Rattle.kr_rollout.specs.declared.answer.Answer.{Answer}
use Rattle.kr_rollout.specs.declared.answer.Answer.TheVariants as answer
use Rattle.kr_rollout.specs.declared.event.Event.TheVariants as event
use Rattle.kr_history.specs.Acting.{Caller, AddsEntry}
use Rattle.kr_history.specs.Calls.{EndsEarly, HoldsMeanwhile}
use Rattle.kr_history.specs.declared.call.CallNo.{CallNo}
use Rattle.kr_history.specs.declared.call.CallNo.TheVariants as refusal
use Rattle.kr_fleet.specs.CallForms.{BringsWhere, CutShortWhere, FindsWhere, JoinsWhere, ReloadsWhere, publish_refusal, reload_of}
use Rattle.kr_history.specs.declared.outcome.Joining.{Joining}
use Rattle.kr_fleet.specs.declared.outcome.Loaded.{Loaded}
use Rattle.kr_fleet.specs.declared.outcome.Loaded.TheVariants as loaded
use Rattle.kr_fleet.specs.declared.outcome.Read.{Read}

-- ---- read

-- no plugin was asked, and this stayed
abbrev pub AsksNone : {S : Type 0} → (old new : S) → List Exchange → Type 0
AsksNone old new exchanges = (new ≡ old) × (exchanges ≡ [])

module _ (path : List ℕ) where
  -- the row of the path was found, by an entry that names the configuration, and its value was read
  -- by these exchanges
  pub record FindsRowBy (p : Publication) (old : Caller) (cache : CacheState) (row : Row)
      (opened : Result Opened UnsealNo) (new : Caller) (after : CacheState)
      (exchanges : List Exchange) : Type 0 where
    pub found : AddsEntry old (event.Fetch path) (answer.Found row) new
    pub named : found.entry.published ≡ Some p
    pub reads : ReadsBy p.seeds (list_at p row.resource) path row.stored cache opened after
        exchanges

  -- by a held configuration
  abbrev pub FindsBy : Publication → Caller → CacheState → Result Read CallNo → Caller → CacheState
      → List Exchange → Type 0
  FindsBy p old cache result new after exchanges = FindsWhere path old new
      (λ row opened. FindsRowBy p old cache row opened new after exchanges)
      (AsksNone cache after exchanges) result

  -- nothing is adopted; or the adopted configuration reads
  abbrev pub IsReadBy : (replica : ℕ) → Caller → CacheState → Result Read CallNo → Caller
      → CacheState → List Exchange → Type 0
  IsReadBy replica old cache result new after exchanges =
      EndsEarly replica (AsksNone cache after exchanges) old result new
      ⊎ HoldsMeanwhile (λ number p from done to. FindsBy p from cache done to after exchanges)
      replica old result new

-- ---- reload and join: the settings' plugins make a seed each, once

module _ {D : Type 0} (left : D → Option (List ℕ)) (count : D → ℕ) (rows : List settings_row) where
  abbrev pub IsReloadBy : (replica : ℕ) → Caller → D → Result Loaded CallNo → Caller → D
      → List Exchange → Type 0
  IsReloadBy replica old dice result new after exchanges = ReloadsWhere
      (λ made. PublishesBy left count rows dice made after exchanges) replica old result new

  abbrev pub IsJoinBy : (replica : ℕ) → Caller → D → Result Joining CallNo → Caller → D
      → List Exchange → Type 0
  IsJoinBy replica old dice result new after exchanges = JoinsWhere
      (λ made. PublishesBy left count rows dice made after exchanges) replica old result new

-- ---- refresh

-- the plugins of these seeds are asked for their key ids, in the order of the seeds, up to the
-- first that tells another than its seed's, or none
pub data ComparesKeysBy : List SeedRow → Result Bool CallNo → List Exchange → Type 0 where
  all_same : ComparesKeysBy [] (Ok false) []
  changed : {exchanges : List Exchange} (row : SeedRow) (rest : List SeedRow) (key_id : List ℕ)
      → TellsKeyIdAt row.name (Ok key_id) exchanges → key_id ≢ row.key_id
      → ComparesKeysBy (row ∷ rest) (Ok true) exchanges
  told_none : {exchanges : List Exchange} (row : SeedRow) (rest : List SeedRow) (no : PublishNo)
      (why : CallNo) → TellsKeyIdAt row.name (Err no) exchanges → why ≡ publish_refusal no
      → ComparesKeysBy (row ∷ rest) (Err why) exchanges
  went_on : {exchanges others : List Exchange} {result : Result Bool CallNo} (row : SeedRow)
      (rest : List SeedRow) → TellsKeyIdAt row.name (Ok row.key_id) exchanges
      → ComparesKeysBy rest result others
      → ComparesKeysBy (row ∷ rest) result (exchanges ++ others)

-- a key has changed, so the adopted settings are published anew, by other exchanges behind these
pub record RenewsAfter (seeds : List SeedRow) (exchanges : List Exchange)
    (Brings : List Exchange → Type 0) : Type 0 where
  pub asked : List Exchange
  pub others : List Exchange
  pub exchanges_are : exchanges ≡ asked ++ others
  pub compares : ComparesKeysBy seeds (Ok true) asked
  pub brings : Brings others

module _ {D : Type 0} (left : D → Option (List ℕ)) (count : D → ℕ) (replica : ℕ) where
  -- their Reload expects the adopted generation
  abbrev pub RenewsBy : ℕ → Publication → Caller → D → Answer → Caller → D → List Exchange → Type 0
  RenewsBy number p old dice given new after exchanges = RenewsAfter p.seeds exchanges
      (λ others. BringsWhere (λ made. PublishesBy left count p.rows dice made after others)
      (reload_of replica (Some number)) old given new)

  -- a plugin told no key id; or a key has changed, but there was no memory for one more owner of
  -- the settings; or these were published, or not, as the call was cut short
  abbrev pub StopsBy : ℕ → Publication → Caller → D → CallNo → Caller → D → List Exchange → Type 0
  StopsBy number p old dice why new after exchanges =
      (ComparesKeysBy p.seeds (Err why) exchanges × (new ≡ old) × (after ≡ dice))
      ⊎ (ComparesKeysBy p.seeds (Ok true) exchanges × (why ≡ refusal.NoMemory) × (new ≡ old)
      × (after ≡ dice))
      ⊎ RenewsAfter p.seeds exchanges (λ others. CutShortWhere
      (λ made. PublishesBy left count p.rows dice made after others)
      (reload_of replica (Some number)) replica old why new)

  -- by a held generation
  abbrev pub RefreshesBy : ℕ → Publication → Caller → D → Result Loaded CallNo → Caller → D
      → List Exchange → Type 0
  RefreshesBy number p old dice (Ok (loaded.Unchanged same)) new after exchanges =
      (same ≡ number) × ComparesKeysBy p.seeds (Ok false) exchanges × (new ≡ old) × (after ≡ dice)
  RefreshesBy number p old dice (Ok (loaded.Generation made)) new after exchanges =
      RenewsBy number p old dice (answer.Reloaded made) new after exchanges
  RefreshesBy number p old dice (Ok (loaded.Moved current)) new after exchanges =
      RenewsBy number p old dice (answer.Moved current) new after exchanges
  RefreshesBy number p old dice (Ok (loaded.Refused verdict)) new after exchanges = ⊥
  RefreshesBy number p old dice (Err why) new after exchanges =
      StopsBy number p old dice why new after exchanges

  -- nothing is adopted; or by the adopted generation
  abbrev pub IsRefreshBy : Caller → D → Result Loaded CallNo → Caller → D → List Exchange → Type 0
  IsRefreshBy old dice result new after exchanges =
      EndsEarly replica (AsksNone dice after exchanges) old result new
      ⊎ HoldsMeanwhile (λ number p from done to.
      RefreshesBy number p from dice done to after exchanges) replica old result new
