-- Who would lack a provider once a replica had new settings.
use Rattle.std.specs.Prelude.{◌≡◌, ℕ, ◌⊎◌, IsTrue, List, Contains, Some}
use Rattle.kr_config.specs.declared.class.Class.{Class}
use Rattle.kr_config.specs.declared.who.Who.{Who}
use Rattle.kr_config.specs.Kept.{ConfigEntry}
use Rattle.kr_config.specs.Lists.{list_of, class_list}
use Rattle.kr_judge.specs.declared.need.Need.{Need}
use Rattle.kr_judge.specs.Boards.{GenerationState, is_live, without_current}
use Rattle.kr_judge.specs.Verdicts.{first}

-- ---- what is lacked

-- settings don't list the provider of a value that is stored
pub record LacksStored (Stored : (resource : List ℕ) → Who → Type 0) (rows : List ConfigEntry)
    : Type 0 where
  pub resource : List ℕ
  pub who : Who
  pub stored : Stored resource who
  pub lacks : ¬ Contains (list_of rows resource) who

-- settings don't list the provider, the first of its list, with which others write at a class
pub record LacksWriter (writing reading : List ConfigEntry) : Type 0 where
  pub class : Class
  pub who : Who
  pub writes : first (class_list writing class) ≡ Some who
  pub lacks : ¬ Contains (class_list reading class) who

-- new settings beside others: they lack the provider of what is stored, or of what another writes,
-- or another lacks the one with which they write
abbrev pub LacksProvider : (Stored : (resource : List ℕ) → Who → Type 0)
    → (Other : List ConfigEntry → Type 0) → List ConfigEntry → Type 0
LacksProvider Stored Other rows = LacksStored Stored rows
    ⊎ ((other : List ConfigEntry) × Other other × (LacksWriter other rows ⊎ LacksWriter rows other))

-- ---- of bare settings

-- a value of the resource needs the provider
abbrev pub IsNeeded : List Need → (resource : List ℕ) → Who → Type 0
IsNeeded needs resource who =
    (need : Need) × Contains needs need × (need.resource ≡ resource) × (need.who ≡ who)

-- the settings of a live generation
abbrev pub IsLiveIn : List GenerationState → List ConfigEntry → Type 0
IsLiveIn generations rows = (own : GenerationState) × Contains generations own
    × IsTrue (is_live own) × (own.rows ≡ rows)

-- the same, once the replica's current generation is no longer current
abbrev pub IsLiveBeside : (replica : ℕ) → List GenerationState → List ConfigEntry → Type 0
IsLiveBeside replica generations rows = IsLiveIn (without_current replica generations) rows
