-- What the phases give that load what a fleet works by.
use Rattle.std.specs.Prelude.{◌≡◌, ℕ, List, ◌++◌, map, All, IsSome, Option, Result, Ok, Err, ⊤}
use Rattle.kr_base.specs.Faults.{Rose}
use Rattle.kr_base.specs.Told.{Agrees}
use Rattle.kr_kms.specs.Outside.{Outside, file_faults}
use Rattle.kr_script.specs.Fleets.{Fleet, fleet_of}
use Rattle.kr_script.specs.Meanings.{MeansScript}
use Rattle.kr_script.specs.Rules.{IsFleet, IsWhole, KeepsFleetLimits}
use Rattle.kr_script.specs.declared.script.Script.{Script}
use Rattle.kr_script.specs.declared.script.ScriptNo.{ScriptNo}
use Rattle.kr_script.specs.declared.script.ScriptNo.TheVariants as no
use Rattle.kr_workers.specs.declared.files.SettingsFile.{SettingsFile}
use Rattle.kr_provider.specs.PluginOrder.{plugin_order}
use Rattle.kr_cmd_steps.specs.Environment.{Environment, with_world}
use Rattle.kr_cmd_fleet.specs.FleetFiles.{FleetPlan, IsFleetFile, MeansFleet, NamedRows, all_rows, files_in, all_files, named_rows, file_entries}
use Rattle.kr_cmd_fleet.specs.declared.fleet_file.LoadedFleet.{LoadedFleet}
use Rattle.kr_cmd_messages.specs.declared.refusal.Limit.TheVariants as limit
use Rattle.kr_cmd_messages.specs.declared.refusal.Object.TheVariants.{Files}
use Rattle.kr_cmd_messages.specs.declared.refusal.Refusal.{Refusal}
use Rattle.kr_cmd_messages.specs.declared.refusal.Refusal.TheVariants.{Limit, Script as bad_line}
use Rattle.kr_cmd_messages.specs.declared.refusal.Stop.{Stop}
use Rattle.kr_cmd_messages.specs.declared.refusal.Stop.TheVariants.{Refused, Fault, NoMemory}
use Rattle.kr_cmd_steps.specs.inner.ProgramNames.{names_in}
use Rattle.kr_cmd_steps.specs.inner.Phases.{Does}

-- ---- the fleet file

abbrev pub script_stop : ScriptNo → Stop
script_stop (no.Breach at) = Refused (bad_line at)
script_stop no.Replicas = Refused (Limit limit.Replicas)
script_stop no.Workers = Refused (Limit limit.Workers)
script_stop no.TooLarge = Refused (Limit limit.Data)
script_stop no.NoMemory = NoMemory

-- the script that the bytes mean, or why there is none
abbrev pub ReadsBytes : List ℕ → Result Script Stop → Type 0
ReadsBytes bytes (Ok script) = MeansScript bytes (Ok (fleet_of script))
ReadsBytes bytes (Err (Refused why)) = MeansFleet bytes (Err why)
ReadsBytes bytes (Err NoMemory) = ⊤
ReadsBytes bytes result = ⊥

-- the file of a name is read so
abbrev pub IsFleetRead : Outside → List ℕ → Result Fleet Refusal → Type 0
IsFleetRead old name read = (file : Option (List ℕ)) × Agrees (old.file name) file
    × IsFleetFile name file read

abbrev pub ReadsFleet : (old new : Outside) → List ℕ → Result Script Stop → Type 0
ReadsFleet old new name (Ok script) = IsFleetRead old name (Ok (fleet_of script))
ReadsFleet old new name (Err (Refused why)) = IsFleetRead old name (Err why)
ReadsFleet old new name (Err (Fault object count)) =
    (object ≡ Files) × Rose old.faults.loads new.faults.loads × (count ≡ file_faults new)
ReadsFleet old new name (Err NoMemory) = ⊤
ReadsFleet old new name result = ⊥

abbrev pub fleet_in_result : Result Script Stop → Result Fleet Stop
fleet_in_result (Ok script) = Ok (fleet_of script)
fleet_in_result (Err stop) = Err stop

-- it keeps the rules of a fleet file
abbrev pub IsRuled : Fleet → Type 0
IsRuled fleet = IsFleet fleet × IsWhole fleet × KeepsFleetLimits fleet

-- ---- the configurations

abbrev pub named : List SettingsFile → List NamedRows
named files = map named_rows files

-- each of these names has a file that was read, and what was read before stays
pub record Covers (old new : List NamedRows) (names : List (List ℕ)) : Type 0 where
  pub read : All (λ name. IsSome (file_entries new name)) names
  pub stays : (name : List ℕ) → IsSome (file_entries old name)
      → file_entries new name ≡ file_entries old name

-- these names were gone through, and no link was handed out: their files are there, and what the
-- rest does completes it; or they ended the command
abbrev pub GoesThrough : (old_files new_files : List NamedRows) (more : List (List ℕ))
    (old new : Outside) → Result (Unit {0}) Stop → Type 0
GoesThrough old_files new_files more old new (Ok done) = (new.links ≡ old.links)
    × Covers old_files new_files more
    × ((a end : Environment) (names : List (List ℕ)) (result : Result (List NamedRows) Stop)
    → Does (files_in new_files names) (with_world new a) end result
    → Does (files_in old_files (more ++ names)) (with_world old a) end result)
GoesThrough old_files new_files more old new (Err stop) = (new.links ≡ old.links)
    × ((a : Environment) (names : List (List ℕ))
    → Does (files_in old_files (more ++ names)) (with_world old a) (with_world new a) (Err stop))

-- ---- all of it

abbrev pub plan_of : LoadedFleet → FleetPlan
plan_of plan = record {
  fleet = fleet_of plan.script;
  files = named plan.files.0;
  programs = plan.programs;
}

abbrev pub plan_in : Result LoadedFleet Stop → Result FleetPlan Stop
plan_in (Ok plan) = Ok (plan_of plan)
plan_in (Err stop) = Err stop

-- what is known of a plan beside the steps that gave it: its fleet keeps the rules of a fleet file,
-- each file that it names was read, and there is a program for each plugin of all of them
pub record IsWholePlan (plan : FleetPlan) : Type 0 where
  pub rules : IsFleet plan.fleet
  pub whole : IsWhole plan.fleet
  pub within : KeepsFleetLimits plan.fleet
  pub read : All (λ name. IsSome (file_entries plan.files name)) (all_files plan.fleet)
  pub programs : names_in plan.programs ≡ plugin_order (all_rows plan.files)
