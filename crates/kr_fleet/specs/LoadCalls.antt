-- `reload`, `join` and `refresh`: a configuration is published, and then brought.
use Rattle.std.specs.Prelude.{◌≡◌, ◌≢◌, ◌⊎◌, ℕ, List, ◌∷◌, ◌++◌, map, All, Contains, Option, None, Some, Result, Ok, Err, ⊤}
use Rattle.kr_base.specs.Told.{Agrees}
use Rattle.kr_config.specs.Kept.{ConfigEntry}
use Rattle.kr_kms.specs.Calls.{Link}
use Rattle.kr_kms.specs.Health.{breach_in}
use Rattle.kr_kms.specs.declared.plugin.Status.{Status}
use Rattle.kr_kms.specs.declared.seeds.SeedRow.{SeedRow}
use Rattle.kr_provider.specs.AskedLinks.{AskedOnly, HasLinkWith, FaultRose}
use Rattle.kr_provider.specs.Publication.{Publication}
use Rattle.kr_provider.specs.Publishing.{Publishes}
use Rattle.kr_kms.specs.Health.{HasBreach}
use Rattle.kr_provider.specs.declared.refusal.PublishNo.{PublishNo}
use Rattle.kr_rollout.specs.declared.answer.Answer.{Answer}
use Rattle.kr_rollout.specs.declared.answer.Answer.TheVariants as answer
use Rattle.kr_rollout.specs.declared.event.Event.{Event}
use Rattle.kr_history.specs.Acting.{Caller}
use Rattle.kr_history.specs.declared.call.CallNo.{CallNo}
use Rattle.kr_history.specs.declared.call.CallNo.TheVariants as refusal
use Rattle.kr_fleet.specs.CallForms.{BringsWhere, BringsNothingWhere, CutShortWhere, JoinsWhere, NotJoinedWhere, PublishesNothingWhere, ReloadsWhere}
pub use Rattle.kr_fleet.specs.CallForms.{reload_of}
use Rattle.kr_history.specs.declared.outcome.Joining.{Joining}
use Rattle.kr_fleet.specs.declared.outcome.Loaded.{Loaded}
use Rattle.kr_fleet.specs.declared.outcome.Loaded.TheVariants as loaded
use Rattle.kr_history.specs.Calls.{EndsEarly, HoldsMeanwhile}

module _ {L D : Type 0} (link : L → Link) (left : D → Option (List ℕ))
    (count : D → ℕ) (rows : List ConfigEntry) where
  -- the settings were published, and the event that brings them was answered so
  abbrev pub Brings : (Publication → Event) → Caller → List L → D → Answer → Caller → List L → D
      → Type 0
  Brings brings old olds dice given new news after = BringsWhere (λ made.
      Publishes link left count rows olds dice made news after) brings old given new

  -- they were published, but aren't brought
  abbrev pub BringsNothing : List L → D → List L → D → Type 0
  BringsNothing olds dice news after = BringsNothingWhere (λ made.
      Publishes link left count rows olds dice made news after)

  -- they weren't published, and nothing is brought
  abbrev pub PublishesNothing : Caller → List L → D → PublishNo → Caller → List L → D → Type 0
  PublishesNothing old olds dice why new news after = PublishesNothingWhere (λ made.
      Publishes link left count rows olds dice made news after) old why new

  -- why a call that publishes and brings is cut short
  abbrev pub BringsBy : (Publication → Event) → (replica : ℕ) → Caller → List L → D → CallNo
      → Caller → List L → D → Type 0
  BringsBy brings replica old olds dice why new news after = CutShortWhere (λ made.
      Publishes link left count rows olds dice made news after) brings replica old why new

  -- ---- reload: a Reload that expects no generation

  abbrev pub IsReload : (replica : ℕ) → Caller → List L → D → Result Loaded CallNo → Caller
      → List L → D → Type 0
  IsReload replica old olds dice result new news after = ReloadsWhere (λ made.
      Publishes link left count rows olds dice made news after) replica old result new

  -- ---- join: a Join

  -- a Join is never answered that the replica isn't in
  abbrev pub JoinsBy : (replica : ℕ) → Caller → List L → D → CallNo → Caller → List L → D
      → Type 0
  JoinsBy replica old olds dice why new news after = NotJoinedWhere (λ made.
      Publishes link left count rows olds dice made news after) replica old why new

  abbrev pub IsJoin : (replica : ℕ) → Caller → List L → D → Result Joining CallNo → Caller
      → List L → D → Type 0
  IsJoin replica old olds dice result new news after = JoinsWhere (λ made.
      Publishes link left count rows olds dice made news after) replica old result new

-- ---- refresh: an Adopt; a Reload of the same settings, where a key has changed; a LetGo

-- the plugins of some seeds
abbrev pub plugin_names : List SeedRow → List (List ℕ)
plugin_names seeds = map (λ row. row.name) seeds

-- a healthy plugin may have answered this key id: where its link tells a status, it is that of the
-- status
abbrev pub MayTellKey : (key_id : List ℕ) → Link → Type 0
MayTellKey key_id it = (status : Status) × Agrees it.status status × (breach_in status ≡ None)
    × (status.key_id ≡ key_id)

module _ {L : Type 0} (link : L → Link) (links : List L) where
  -- no plugin tells another key id than that of its seed
  abbrev pub AreKeysSame : List SeedRow → Type 0
  AreKeysSame seeds = All (λ row. HasLinkWith link row.name (MayTellKey row.key_id) links) seeds

  -- some plugin does
  pub record IsKeyChanged (seeds : List SeedRow) : Type 0 where
    pub row : SeedRow
    pub there : Contains seeds row
    pub key_id : List ℕ
    pub other : key_id ≢ row.key_id
    pub tells : HasLinkWith link row.name (MayTellKey key_id) links

  -- the plugins before this one tell the key ids of their seeds
  pub record AsksUpTo (seeds : List SeedRow) (name : List ℕ) : Type 0 where
    pub before : List SeedRow
    pub row : SeedRow
    pub rest : List SeedRow
    pub seeds_are : seeds ≡ before ++ row ∷ rest
    pub named : row.name ≡ name
    pub same : AreKeysSame before

  -- some plugin's key id couldn't be asked for
  abbrev pub AsksInVain : List SeedRow → CallNo → List L → Type 0
  AsksInVain seeds (refusal.PluginFailed name) news =
      AsksUpTo seeds name × FaultRose link name links news
  AsksInVain seeds (refusal.Unhealthy name field text) news = AsksUpTo seeds name
      × HasLinkWith link name (λ it. HasBreach it (Some (field, text))) links
  AsksInVain seeds refusal.NoMemory news = ⊤
  AsksInVain seeds why news = ⊥

module _ {L D : Type 0} (link : L → Link) (left : D → Option (List ℕ))
    (count : D → ℕ) (replica : ℕ) where
  -- a key has changed, so the adopted settings are published anew; its Reload expects the adopted
  -- generation
  pub record Renews (p : Publication) (olds : List L) (Brought : List L → Type 0) : Type 0 where
    pub asked : List L
    pub links : AskedOnly link (plugin_names p.seeds) olds asked
    pub changed : IsKeyChanged link olds p.seeds
    pub brought : Brought asked

  abbrev pub RenewsTo : ℕ → Publication → Caller → List L → D → Answer → Caller → List L → D
      → Type 0
  RenewsTo number p old olds dice given new news after = Renews p olds (λ asked.
      Brings link left count p.rows (reload_of replica (Some number)) old asked dice given
      new news after)

  abbrev pub StopsRefresh : ℕ → Publication → Caller → List L → D → CallNo → Caller → List L → D
      → Type 0
  StopsRefresh number p old olds dice why new news after =
      (AsksInVain link olds p.seeds why news × (new ≡ old) × (after ≡ dice))
      ⊎ Renews p olds (λ asked. BringsBy link left count p.rows
      (reload_of replica (Some number)) replica old asked dice why new news after)

  -- by a held generation
  abbrev pub Refreshes : ℕ → Publication → Caller → List L → D → Result Loaded CallNo → Caller
      → List L → D → Type 0
  Refreshes number p old olds dice (Ok (loaded.Unchanged same)) new news after =
      (same ≡ number) × AreKeysSame link olds p.seeds × (new ≡ old) × (after ≡ dice)
  Refreshes number p old olds dice (Ok (loaded.Generation made)) new news after =
      RenewsTo number p old olds dice (answer.Reloaded made) new news after
  Refreshes number p old olds dice (Ok (loaded.Moved current)) new news after =
      RenewsTo number p old olds dice (answer.Moved current) new news after
  Refreshes number p old olds dice (Ok (loaded.Refused verdict)) new news after = ⊥
  Refreshes number p old olds dice (Err why) new news after =
      StopsRefresh number p old olds dice why new news after

  -- nothing is adopted; or by the adopted generation, whose settings' plugins alone are asked
  abbrev pub IsRefresh : Caller → List L → D → Result Loaded CallNo → Caller → List L → D
      → Type 0
  IsRefresh old olds dice result new news after =
      EndsEarly replica ((news ≡ olds) × (after ≡ dice)) old result new
      ⊎ HoldsMeanwhile (λ number p from done to. Refreshes number p from olds dice done to news
      after × AskedOnly link (plugin_names p.seeds) olds news) replica old result new
