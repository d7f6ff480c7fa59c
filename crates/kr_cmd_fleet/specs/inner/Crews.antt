-- The workers of a fleet when they are made, and the core that they begin at.
use Rattle.std.specs.Prelude.{◌≡◌, ◌<◌, ◌≤◌, ℕ, List, [], ◌++◌, length, map, reverse, sum, slice_index_or, None}
use Rattle.kr_rollout.specs.Cores.{CoreState}
use Rattle.kr_script.specs.declared.script.Part.{Part}
use Rattle.kr_provider.specs.KeyPages.{size_of}
use Rattle.kr_workers.specs.Budgets.{all_reloads}
use Rattle.kr_workers.specs.declared.worker.Worker.{Worker}
use Rattle.kr_cmd_fleet.specs.declared.fleet_file.LoadedFleet.{LoadedFleet}
use Rattle.kr_cmd_fleet.specs.declared.outfit.Outfit.{Outfit}
use Rattle.kr_cmd_steps.specs.inner.ProgramNames.{names_in}

module _ {T L D : Type 0} where
  -- what a worker has of the world
  abbrev pub outfit_of : Worker T L D → Outfit L D
  outfit_of worker = record { links = worker.bench.links; dice = worker.bench.dice }

  abbrev pub outfits_of : List (Worker T L D) → List (Outfit L D)
  outfits_of workers = map outfit_of workers

  -- it told nothing yet and has room for a reply of each of its part's lines, and pages enough; its
  -- bench keeps no seed
  pub record IsFresh (part : Part) (worker : Worker T L D) : Type 0 where
    pub no_seat : worker.seat ≡ None
    pub none_told : worker.told.0 ≡ []
    pub room : length part.lines.0 ≤ worker.told.1
    pub pages : 64 ≤ size_of worker.bench.pages
    pub cold : worker.bench.cache.rows ≡ []

  -- workers for the first parts, in the order of the parts, with the first of these outfits; those
  -- that are left stand from the last to the first, with room for the workers' own behind them
  pub record HiresFirst (parts : List Part) (outfits : List (Outfit L D))
      (workers : List (Worker T L D)) (left : List (Outfit L D)) (room : ℕ) : Type 0 where
    pub outfits_are : outfits_of workers ++ reverse left ≡ outfits
    pub fresh : (i : ℕ) (part : Part) (worker : Worker T L D) → i < length workers
        → IsFresh (slice_index_or parts i part) (slice_index_or workers i worker)
    pub room_left : length workers ≤ room

  -- a worker for each part, in the order of the parts, with these outfits
  pub record IsCrew (parts : List Part) (outfits : List (Outfit L D))
      (workers : List (Worker T L D))
      : Type 0 where
    pub outfits_are : outfits_of workers ≡ outfits
    pub many : length workers ≡ length parts
    pub fresh : (i : ℕ) (part : Part) (worker : Worker T L D) → i < length parts
        → IsFresh (slice_index_or parts i part) (slice_index_or workers i worker)

-- a core at its begin, for the workers of this plan, with as much room as their budgets
pub record IsReadyCore (plan : LoadedFleet) (budgets : List ℕ) (core : CoreState) : Type 0 where
  pub begin : core.history ≡ []
  pub names : core.opening.names ≡ names_in plan.programs
  pub reloads : core.opening.reloads ≡ all_reloads plan.script.workers.0
  pub replicas : length core.opening.replicas ≡ length plan.script.replicas.0
  pub room : core.room ≡ sum budgets
