-- A load of which nothing lacks: each object was put, and each `get` told what was put.
use Rattle.std.specs.Prelude.{◌≡◌, ℕ, ◌*◌, ◌≤◌, ◌⊎◌, List, [], map, Option, Some}
use Rattle.std.specs.List.{flat_map, range_with_len, slice_get}
use Rattle.kr_base.specs.Faults.{Rose}
use Rattle.kr_base.specs.Limits.{store_limit}
use Rattle.kr_kms.specs.Calls.{Link}
use Rattle.kr_kms.specs.Exchanges.{Exchange}
use Rattle.kr_provider.specs.Names.{names_of}
use Rattle.kr_rollout.specs.Histories.{state_of}
use Rattle.kr_rollout.specs.declared.opening.Entry.{Entry}
use Rattle.kr_rollout.specs.declared.opening.Opening.{Opening}
use Rattle.kr_script.specs.declared.script.Part.{Part}
use Rattle.kr_workers.specs.declared.ending.Ending.TheVariants as ending
use Rattle.kr_workers.specs.declared.files.SettingsFile.{SettingsFile}
use Rattle.kr_workers.specs.declared.worker.Worker.{Worker}
use Rattle.kr_workload.specs.Endings.{ending_of_load}
use Rattle.kr_workload.specs.LoadRuns.{IsLoadRun}
use Rattle.kr_workload.specs.Loads.{load_fleet, object_path, plain_of}
use Rattle.kr_workload.specs.Summaries.{GotObjects, IsDigest, Replies, count_gets, objects_of, count_puts, summary_text}

-- ---- the summary

-- what a worker puts, and is to get: path and data of each of its objects
abbrev pub objects_at : (seed size worker : ℕ) → GotObjects
objects_at seed size worker = map
    (λ number. (object_path worker number, plain_of seed size worker number))
    (range_with_len 0 size)

-- all four of them
abbrev pub all_objects : (seed size : ℕ) → GotObjects
all_objects seed size = flat_map (objects_at seed size) (range_with_len 0 4)

-- each worker's objects were put, and got as they were put: nothing here depends on the run
abbrev pub IsFull : (seed size : ℕ) → (text : List ℕ) → Type 0
IsFull seed size text = (digest : List ℕ) × IsDigest (all_objects seed size) digest
    × (text ≡ summary_text seed size (4 * size) (4 * size) digest)

-- and it is one text
abbrev pub FullIsOne : Type 0
FullIsOne = (seed size : ℕ) (one other : List ℕ) → IsFull seed size one → IsFull seed size other
    → one ≡ other

-- the replies of such a load
pub record AreFull (seed size : ℕ) (replies : Replies) : Type 0 where
  pub ended : ending_of_load replies ≡ ending.Done
  pub puts : count_puts replies ≡ 4 * size
  pub gets : count_gets replies ≡ 4 * size
  pub objects : objects_of (load_fleet seed size).workers replies ≡ all_objects seed size

-- ---- when a load is so

-- so many objects of each worker fit into a store
abbrev pub load_size_limit : ℕ
load_size_limit = 10000

module _ {T L D : Type 0} (link : L → Link) (count : D → ℕ) where
  -- the store had no rows, there are no plugins, and neither the count of the store's tape rose nor
  -- that of a worker's random source
  pub record IsBlankRun (size : ℕ) (history : List Entry) (o : Opening)
      (old new : List (Worker T L D)) : Type 0 where
    pub few : size ≤ load_size_limit
    pub blank : o.rows ≡ []
    pub bare : o.names ≡ []
    pub limit : o.limit ≡ store_limit
    pub links : (number : ℕ) (worker : Worker T L D) → slice_get old number ≡ Some worker
        → names_of link worker.bench.links ≡ []
    pub stored : Rose o.count (state_of o history).count → ⊥
    pub drawn : (number : ℕ) (before after : Worker T L D)
        → slice_get old number ≡ Some before → slice_get new number ≡ Some after
        → Rose (count before.bench.dice) (count after.bench.dice) → ⊥

-- memory lacked for some reply, or nothing lacks
abbrev pub LoadsAreFull : (T : Type 0) → {L D : Type 0} → (L → Link)
    → (L → Exchange → L → Type 0)
    → (D → Option (List ℕ)) → (D → ℕ) → Type 0
LoadsAreFull T {L} {D} link step left count = (seed size : ℕ) (files : List SettingsFile)
    (history : List Entry) (o : Opening) (parts : List Part) (budgets : List ℕ)
    (old new : List (Worker T L D))
    → IsLoadRun link step left count seed size files history o parts budgets old new
    → IsBlankRun link count size history o old new
    → (ending_of_load (map (λ (worker : Worker T L D). worker.told) new) ≡ ending.Memory)
    ⊎ AreFull seed size (map (λ (worker : Worker T L D). worker.told) new)
