-- The rules of a fleet file, as tests that compute, and its limits.
use Rattle.std.specs.Prelude.{◌≡◌, ℕ, ◌≤◌, ◌&&◌, not, nat_lt, Bool, true, false, List, [], ◌∷◌}
use Rattle.std.specs.Prelude.{length, map, codes}
use Rattle.std.specs.List.{list_any, list_all}
use Rattle.std.specs.Str.{bytes_eq}
use Rattle.kr_base.specs.Limits.{data_limit}
use Rattle.kr_base.specs.Rules.{is_name, is_path, is_resource}
use Rattle.kr_script.specs.declared.script.ScriptLine.{ScriptLine}
use Rattle.kr_script.specs.declared.script.ScriptLine.TheVariants.{Put, Get, Delete, Rewrite, Reload}
use Rattle.kr_script.specs.declared.script.ScriptLine.TheVariants.{Refresh, Join, Leave}
use Rattle.kr_script.specs.Fleets.{Fleet, Worker}

-- no name stands twice
abbrev pub are_distinct : List (List ℕ) → Bool
are_distinct [] = true
are_distinct (name ∷ names) = not (list_any (bytes_eq name) names) && are_distinct names

-- the file `-` says that a replica isn't in at the opening
abbrev pub is_gap : List ℕ → Bool
is_gap file = bytes_eq file (codes "-")

-- the first replica is in
abbrev pub first_is_in : List (List ℕ × List ℕ) → Bool
first_is_in [] = true
first_is_in (replica ∷ replicas) = not (is_gap replica.1)

-- paths and resources are of their form, and there are replicas with these numbers
abbrev pub is_line : ℕ → ScriptLine → Bool
is_line count (Put resource path plain) = is_resource resource && is_path path
is_line count (Get path) = is_path path
is_line count (Delete path) = is_path path
is_line count Rewrite = true
is_line count (Reload replica file) = nat_lt replica count
is_line count Refresh = true
is_line count (Join replica file) = nat_lt replica count
is_line count (Leave replica) = nat_lt replica count

abbrev pub is_worker : ℕ → Worker → Bool
is_worker count worker = is_name worker.name && nat_lt worker.replica count
    && list_all (is_line count) worker.lines

abbrev pub fleet_replica_names : Fleet → List (List ℕ)
fleet_replica_names fleet = map (λ replica. replica.0) fleet.replicas

abbrev pub worker_names : Fleet → List (List ℕ)
worker_names fleet = map (λ worker. worker.name) fleet.workers

-- Replicas and workers have names by their rule, distinct among their kind; the first replica is
-- in; workers stand at replicas that there are, and their lines are of their form.
pub record IsFleet (fleet : Fleet) : Type 0 where
  pub replicas : list_all is_name (fleet_replica_names fleet) ≡ true
  pub apart : are_distinct (fleet_replica_names fleet) ≡ true
  pub first : first_is_in fleet.replicas ≡ true
  pub workers : list_all (is_worker (length fleet.replicas)) fleet.workers ≡ true
  pub workers_apart : are_distinct (worker_names fleet) ≡ true

-- there is a replica and a worker
pub record IsWhole (fleet : Fleet) : Type 0 where
  pub replicas : 1 ≤ length fleet.replicas
  pub workers : 1 ≤ length fleet.workers

-- the most replicas, and the most workers
abbrev pub replica_limit : ℕ
replica_limit = 16

abbrev pub worker_limit : ℕ
worker_limit = 64

-- more data than an object may have
abbrev pub is_long : ScriptLine → Bool
is_long (Put resource path plain) = nat_lt data_limit (length plain)
is_long (Get path) = false
is_long (Delete path) = false
is_long Rewrite = false
is_long (Reload replica file) = false
is_long Refresh = false
is_long (Join replica file) = false
is_long (Leave replica) = false

abbrev pub has_long_line : Fleet → Bool
has_long_line fleet = list_any (λ worker. list_any is_long worker.lines) fleet.workers

pub record KeepsFleetLimits (fleet : Fleet) : Type 0 where
  pub replicas : length fleet.replicas ≤ replica_limit
  pub workers : length fleet.workers ≤ worker_limit
  pub lines : has_long_line fleet ≡ false
