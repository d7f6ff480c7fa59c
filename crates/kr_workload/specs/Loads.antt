-- What a load is made of: its secrets, its data, its three configurations and its fleet.
use Rattle.std.specs.Prelude.{ℕ, zero, suc, ◌+◌, ◌*◌, ◌%◌, ◌<◌, ◌^◌, List, [], ◌∷◌, ◌++◌, codes, decimal, map}
use Rattle.std.specs.List.{range_with_len}
use Rattle.kr_config.specs.Kept.{ConfigEntry, rows_of}
use Rattle.kr_config.specs.declared.pattern.Pattern.TheVariants.{Exact}
use Rattle.kr_config.specs.declared.who.Who.{Who}
use Rattle.kr_config.specs.declared.who.Who.TheVariants.{Aesgcm, Identity}
use Rattle.kr_script.specs.Fleets.{Fleet, Worker}
use Rattle.kr_script.specs.Rules.{IsFleet, IsWhole, KeepsFleetLimits}
use Rattle.kr_script.specs.declared.script.ScriptLine.{ScriptLine}
use Rattle.kr_script.specs.declared.script.ScriptLine.TheVariants.{Get, Put, Reload}
use Rattle.kr_workers.specs.declared.files.SettingsFile.{SettingsFile}
use Rattle.kr_workload.specs.Streams.{piece}

-- ---- what stream 0 gives

-- the first two pieces are the secrets
abbrev pub g1 : (seed : ℕ) → Who
g1 seed = Aesgcm (codes "g1") (piece seed 0)

abbrev pub g2 : (seed : ℕ) → Who
g2 seed = Aesgcm (codes "g2") (piece seed 1)

-- the data follow, worker by worker and put by put
abbrev pub plain_of : (seed size worker number : ℕ) → List ℕ
plain_of seed size worker number = piece seed (2 + worker * size + number)

-- ---- the configurations

-- one entry, of secrets
abbrev pub of_secrets : List Who → List ConfigEntry
of_secrets providers =
    record { patterns = Exact (codes "secrets") ∷ []; providers = providers } ∷ []

-- each by the name of its file. A: the one key writes. B: it writes, and the other is read too. C:
-- the other way round
abbrev pub configurations_by : (one other : Who) → List (List ℕ × List ConfigEntry)
configurations_by one other =
    (codes "A", of_secrets (one ∷ (Identity ∷ [])))
    ∷ ((codes "B", of_secrets (one ∷ (other ∷ (Identity ∷ []))))
    ∷ ((codes "C", of_secrets (other ∷ (one ∷ (Identity ∷ [])))) ∷ []))

abbrev pub configurations : (seed : ℕ) → List (List ℕ × List ConfigEntry)
configurations seed = configurations_by (g1 seed) (g2 seed)

-- a file of settings, seen so
abbrev pub named_configuration : SettingsFile → List ℕ × List ConfigEntry
named_configuration file = (file.name, rows_of file.settings.entries.0)

-- ---- the fleet

abbrev pub object_path : (worker number : ℕ) → List ℕ
object_path worker number =
    codes "/registry/secrets/gen/w" ++ decimal worker ++ codes "-" ++ decimal number

abbrev pub put_of : (seed size worker number : ℕ) → ScriptLine
put_of seed size worker number =
    Put (codes "secrets") (object_path worker number) (plain_of seed size worker number)

abbrev pub load_get_line : (worker number : ℕ) → ScriptLine
load_get_line worker number = Get (object_path worker number)

-- between its puts and its gets the first worker reloads both replicas, with B and then with C
abbrev pub load_reloads : (worker : ℕ) → List ScriptLine
load_reloads zero = Reload 0 (codes "B") ∷ (Reload 1 (codes "B")
    ∷ (Reload 0 (codes "C") ∷ (Reload 1 (codes "C") ∷ [])))
load_reloads (suc worker) = []

abbrev pub lines_of : (seed size worker : ℕ) → List ScriptLine
lines_of seed size worker = map (put_of seed size worker) (range_with_len 0 size)
    ++ (load_reloads worker ++ map (load_get_line worker) (range_with_len 0 size))

-- workers stand at the replicas in turn
abbrev pub load_worker : (seed size worker : ℕ) → Worker
load_worker seed size worker = record {
  name = codes "w" ++ decimal worker;
  replica = worker % 2;
  lines = lines_of seed size worker;
}

-- two replicas, which open with A, and four workers
abbrev pub load_fleet : (seed size : ℕ) → Fleet
load_fleet seed size = record {
  replicas = (codes "a", codes "A") ∷ ((codes "b", codes "A") ∷ []);
  workers = map (load_worker seed size) (range_with_len 0 4);
}

-- ---- what is known of the fleet

-- it keeps the rules of a fleet file and its limits
pub record KeepsRules (seed size : ℕ) : Type 0 where
  pub rules : IsFleet (load_fleet seed size)
  pub whole : IsWhole (load_fleet seed size)
  pub within : KeepsFleetLimits (load_fleet seed size)

abbrev pub LoadsKeepRules : Type 0
LoadsKeepRules = (seed size : ℕ) → size < 2 ^ 32 → KeepsRules seed size
