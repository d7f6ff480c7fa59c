-- What a fleet file says: replicas with their files, and workers with their lines.
use Rattle.std.specs.Prelude.{ℕ, List, map}
use Rattle.kr_script.specs.declared.script.Script.{Script}
use Rattle.kr_script.specs.declared.script.Part.{Part}
use Rattle.kr_script.specs.declared.script.ScriptLine.{ScriptLine}

-- a worker at a replica, which is named by its number, with the lines that it does in order
pub record Worker : Type 0 where
  pub name : List ℕ
  pub replica : ℕ
  pub lines : List ScriptLine

-- the replicas, each a name and a file, and the workers
pub record Fleet : Type 0 where
  pub replicas : List (List ℕ × List ℕ)
  pub workers : List Worker

abbrev pub worker_of : Part → Worker
worker_of part = record { name = part.name; replica = part.replica; lines = part.lines.0 }

abbrev pub fleet_of : Script → Fleet
fleet_of script =
    record { replicas = script.replicas.0; workers = map worker_of script.workers.0 }
