-- What a text means: a fleet, or the first refusal, which is the first line with which what stands
-- so far is no more a fleet in the making.
use Rattle.std.specs.Prelude.{◌≡◌, ℕ, ◌+◌, ◌≤◌, ◌<◌, ◌⊎◌, true, ⊤, List, [], length, take}
use Rattle.std.specs.Prelude.{Result, Ok, Err}
use Rattle.std.specs.List.{list_all}
use Rattle.std.specs.Str.{is_utf8}
use Rattle.std.specs.Str.Lines.{lines}
use Rattle.kr_script.specs.declared.script.Script.{Script}
use Rattle.kr_script.specs.declared.script.ScriptNo.{ScriptNo}
use Rattle.kr_script.specs.declared.script.ScriptNo.TheVariants.{Breach, Replicas, Workers, TooLarge}
use Rattle.kr_script.specs.declared.script.ScriptNo.TheVariants.{NoMemory}
use Rattle.kr_script.specs.Fleets.{Fleet, fleet_of}
use Rattle.kr_script.specs.Rows.{word_rows}
use Rattle.kr_script.specs.Statements.{WriteAll, statements_of}
use Rattle.kr_script.specs.Rules.{IsFleet, IsWhole, KeepsFleetLimits, has_long_line, replica_limit}
use Rattle.kr_script.specs.Rules.{worker_limit}

-- The lines are UTF-8 and write this fleet, which may have no replica or no worker yet.
pub record Say (text : List (List ℕ)) (fleet : Fleet) : Type 0 where
  pub utf8 : list_all is_utf8 text ≡ true
  pub written : WriteAll fleet.replicas (word_rows text) (statements_of fleet)
  pub rules : IsFleet fleet

-- they are UTF-8, blank and comments alone
pub record SayNothing (text : List (List ℕ)) : Type 0 where
  pub utf8 : list_all is_utf8 text ≡ true
  pub blank : word_rows text ≡ []

-- they are the beginning of a file, within the limits
abbrev pub IsBegun : List (List ℕ) → Type 0
IsBegun text = SayNothing text ⊎ ((fleet : Fleet) × Say text fleet × KeepsFleetLimits fleet)

-- they are no beginning of a file, whatever the limits are
abbrev pub IsNoBeginning : List (List ℕ) → Type 0
IsNoBeginning text = (SayNothing text → ⊥) × ((fleet : Fleet) → Say text fleet → ⊥)

-- With this line, counted from 0, the text is no beginning of a file any more; or with all its
-- lines it is one, but no whole file.
abbrev pub Breaks : List (List ℕ) → ℕ → Type 0
Breaks text at = ((at < length text) × IsNoBeginning (take (at + 1) text))
    ⊎ ((at ≡ length text) × ((fleet : Fleet) → Say text fleet → IsWhole fleet → ⊥))

-- with this line, counted from 0, it writes a fleet that passes a limit
abbrev pub ExceedsLimit : List (List ℕ) → ℕ → (Fleet → Type 0) → Type 0
ExceedsLimit text at Limit =
    (at < length text) × ((fleet : Fleet) × Say (take (at + 1) text) fleet × Limit fleet)

abbrev pub HasReplicas : Fleet → Type 0
HasReplicas fleet = replica_limit < length fleet.replicas

abbrev pub HasWorkers : Fleet → Type 0
HasWorkers fleet = (length fleet.replicas ≤ replica_limit) × (worker_limit < length fleet.workers)

abbrev pub HasData : Fleet → Type 0
HasData fleet = (length fleet.replicas ≤ replica_limit) × (length fleet.workers ≤ worker_limit)
    × (has_long_line fleet ≡ true)

-- What lines mean. A refusal comes at the first line that can't stand there: all lines before it
-- are the beginning of a file within the limits. A breach goes before a limit.
abbrev pub LinesMean : List (List ℕ) → Result Fleet ScriptNo → Type 0
LinesMean text (Ok fleet) = Say text fleet × KeepsFleetLimits fleet × IsWhole fleet
LinesMean text (Err (Breach line)) =
    (at : ℕ) × (line ≡ at + 1) × IsBegun (take at text) × Breaks text at
LinesMean text (Err Replicas) =
    (at : ℕ) × IsBegun (take at text) × ExceedsLimit text at HasReplicas
LinesMean text (Err Workers) =
    (at : ℕ) × IsBegun (take at text) × ExceedsLimit text at HasWorkers
LinesMean text (Err TooLarge) =
    (at : ℕ) × IsBegun (take at text) × ExceedsLimit text at HasData
LinesMean text (Err NoMemory) = ⊥

-- what the bytes of a file mean
abbrev pub MeansScript : List ℕ → Result Fleet ScriptNo → Type 0
MeansScript bytes meaning = LinesMean (lines bytes) meaning

-- the script that the bytes mean, or their first refusal; want of memory may take any answer's
-- place
abbrev pub ReadsScript : List ℕ → Result Script ScriptNo → Type 0
ReadsScript bytes (Ok script) = MeansScript bytes (Ok (fleet_of script))
ReadsScript bytes (Err (Breach line)) = MeansScript bytes (Err (Breach line))
ReadsScript bytes (Err Replicas) = MeansScript bytes (Err Replicas)
ReadsScript bytes (Err Workers) = MeansScript bytes (Err Workers)
ReadsScript bytes (Err TooLarge) = MeansScript bytes (Err TooLarge)
ReadsScript bytes (Err NoMemory) = ⊤
