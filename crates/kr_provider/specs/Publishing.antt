-- What publishing some entries makes: a seed for each plugin that they name, in the order of the
-- names' bytes. The first refusal ends it.
use Rattle.std.specs.Prelude.{◌≡◌, ℕ, ◌⊎◌, ◌↔◌, Bool, true, List, [], ◌++◌, map, length, All, Contains, Option, None, Some, Result, Ok, Err}
use Rattle.std.specs.List.{flat_map}
use Rattle.std.specs.List.Sorted.{IsStrictlySortedBy}
use Rattle.std.specs.Ordering.{is_lt}
use Rattle.std.specs.Io.KnownBytes.{Consumes}
use Rattle.kr_base.specs.Faults.{Rose}
use Rattle.kr_config.specs.Kept.{ConfigEntry, plugins_in}
use Rattle.kr_config.specs.Nexts.{name_cmp}
use Rattle.kr_kms.specs.Calls.{Link}
use Rattle.kr_kms.specs.Health.{HasBreach, TellsKeyId}
use Rattle.kr_kms.specs.Seeds.{IsSeedRow}
use Rattle.kr_kms.specs.declared.health.SeedNo.{SeedNo}
use Rattle.kr_kms.specs.declared.health.SeedNo.TheVariants as seed
use Rattle.kr_kms.specs.declared.seeds.SeedRow.{SeedRow}
use Rattle.kr_provider.specs.AskedLinks.{HasLinkWith, FaultRose, AsksOne}
use Rattle.kr_provider.specs.Publication.{Publication}
use Rattle.kr_provider.specs.declared.refusal.PublishNo.{PublishNo}
use Rattle.kr_provider.specs.declared.refusal.PublishNo.TheVariants.{PluginFailed, DiceFailed, Unhealthy, NoMemory}

-- the bytes of the seeds, one behind another
abbrev pub bytes_of_seeds : List SeedRow → List ℕ
bytes_of_seeds made = flat_map (λ row. row.seed) made

-- no rule is broken
abbrev pub IsHealthy : Link → Type 0
IsHealthy link = HasBreach link None

-- the seeds that were made: one for each of these names that passes the test, by the bytes of the
-- name; of each, the plugin was healthy
pub record AreSeedsOf {L : Type 0} (link : L → Link) (links : List L)
    (names : List (List ℕ)) (passes : List ℕ → Bool) (made : List SeedRow) : Type 0 where
  pub ascend : IsStrictlySortedBy name_cmp (map (λ row. row.name) made)
  pub named : (name : List ℕ) → Contains (map (λ row. row.name) made) name
      ↔ (Contains names name × (passes name ≡ true))
  pub rows : All IsSeedRow made
  pub healthy : All (λ row. HasLinkWith link row.name IsHealthy links) made

module _ {L D : Type 0} (link : L → Link) (left : D → Option (List ℕ))
    (count : D → ℕ) where
  -- the plugin of this name ended it: there are seeds of those before, for which bytes were drawn,
  -- and these bytes behind them
  pub record EndsAt (rows : List ConfigEntry) (links : List L) (dice after : D)
      (name drawn : List ℕ)
      : Type 0 where
    pub there : Contains (plugins_in rows) name
    pub made : List SeedRow
    pub seeds : AreSeedsOf link links (plugins_in rows)
        (λ other. is_lt (name_cmp other name)) made
    pub draws : Consumes (left dice) (left after) (bytes_of_seeds made ++ drawn)

  -- it ended there at its status, where nothing was drawn for it, or when it wrapped what was drawn
  abbrev pub EndsWithin : List ConfigEntry → List L → D → D → List ℕ → Type 0
  EndsWithin rows links dice after name = EndsAt rows links dice after name []
      ⊎ ((drawn : List ℕ) × (length drawn ≡ 32)
      × EndsAt rows links dice after name drawn × HasLinkWith link name IsHealthy links)

  abbrev pub Publishes : List ConfigEntry → List L → D → Result Publication PublishNo → List L → D
      → Type 0
  Publishes rows links dice (Ok p) new after = (p.rows ≡ rows)
      × AreSeedsOf link links (plugins_in rows) (λ name. true) p.seeds
      × Consumes (left dice) (left after) (bytes_of_seeds p.seeds)
  Publishes rows links dice (Err (Unhealthy name field text)) new after =
      EndsAt rows links dice after name []
      × HasLinkWith link name (λ l. HasBreach l (Some (field, text))) links
  Publishes rows links dice (Err DiceFailed) new after = (name : List ℕ)
      × EndsAt rows links dice after name [] × HasLinkWith link name IsHealthy links
      × Rose (count dice) (count after)
  Publishes rows links dice (Err (PluginFailed name)) new after =
      FaultRose link name links new × EndsWithin rows links dice after name
  -- memory may lack at any plugin
  Publishes rows links dice (Err NoMemory) new after =
      (name : List ℕ) × EndsWithin rows links dice after name

-- ---- the key id of one plugin

module _ {L : Type 0} (link : L → Link) (name : List ℕ) where
  -- the plugin of the name answered so, and no other was asked
  abbrev pub AnswersKeyId : List L → Result (List ℕ) SeedNo → List L → Type 0
  AnswersKeyId olds answer news =
      AsksOne link name (λ old new. TellsKeyId (link old) answer (link new)) olds news

  abbrev pub TellsKeyIdOf : List L → Result (List ℕ) PublishNo → List L → Type 0
  TellsKeyIdOf olds (Ok key_id) news = AnswersKeyId olds (Ok key_id) news
  TellsKeyIdOf olds (Err (PluginFailed other)) news =
      (other ≡ name) × AnswersKeyId olds (Err seed.Failed) news
  TellsKeyIdOf olds (Err DiceFailed) news = ⊥
  TellsKeyIdOf olds (Err (Unhealthy other field text)) news =
      (other ≡ name) × AnswersKeyId olds (Err (seed.Unhealthy field text)) news
  TellsKeyIdOf olds (Err NoMemory) news =
      AnswersKeyId olds (Err seed.NoMemory) news ⊎ (news ≡ olds)
