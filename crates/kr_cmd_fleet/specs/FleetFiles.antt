-- What a fleet works by: the fleet file, the configurations that it names, and the programs of
-- their plugins.
use Rattle.std.specs.Prelude.{◌≡◌, ℕ, ◌<◌, ◌≤◌, ◌⊎◌, List, [], ◌∷◌, ◌++◌, length, codes, Option, None, Some, Result, Ok, Err, if◌then◌else◌}
use Rattle.std.specs.List.{flat_map}
use Rattle.std.specs.Option.{option_map}
use Rattle.std.specs.Prelude as std
use Rattle.std.specs.Str.{bytes_eq}
use Rattle.kr_base.specs.Limits.{store_limit}
use Rattle.kr_config.specs.Kept.{ConfigEntry, rows_of}
use Rattle.kr_provider.specs.PluginOrder.{plugin_order}
use Rattle.kr_script.specs.Fleets.{Fleet, Worker}
use Rattle.kr_script.specs.Meanings.{MeansScript}
use Rattle.kr_script.specs.declared.script.ScriptLine.{ScriptLine}
use Rattle.kr_script.specs.declared.script.ScriptLine.TheVariants as line
use Rattle.kr_script.specs.declared.script.ScriptNo.{ScriptNo}
use Rattle.kr_script.specs.declared.script.ScriptNo.TheVariants as no
use Rattle.kr_workers.specs.declared.files.SettingsFile.{SettingsFile}
use Rattle.kr_cmd_steps.specs.Phases.{by_result, configuration, with_memory}
use Rattle.kr_cmd_steps.specs.Plugins.{settings_programs}
use Rattle.kr_cmd_steps.specs.Steps.{Steps, load, find, give, and_then}
use Rattle.kr_base.specs.Visible.{visible}
use Rattle.kr_cmd_steps.specs.declared.programs.Program.{Program}
use Rattle.kr_cmd_messages.specs.declared.refusal.Limit.TheVariants as limit
use Rattle.kr_cmd_messages.specs.declared.refusal.Refusal.{Refusal}
use Rattle.kr_cmd_messages.specs.declared.refusal.Refusal.TheVariants.{Absent, Limit, Script}

-- ---- the fleet file

-- why a fleet file isn't read, as a command says it
abbrev pub script_refusal : ScriptNo → Option Refusal
script_refusal (no.Breach at) = Some (Script at)
script_refusal no.Replicas = Some (Limit limit.Replicas)
script_refusal no.Workers = Some (Limit limit.Workers)
script_refusal no.TooLarge = Some (Limit limit.Data)
script_refusal no.NoMemory = None

-- bytes mean this fleet, or are refused so
abbrev pub MeansFleet : List ℕ → Result Fleet Refusal → Type 0
MeansFleet bytes (Ok fleet) = MeansScript bytes (Ok fleet)
MeansFleet bytes (Err why) =
    (cause : ScriptNo) × MeansScript bytes (Err cause) × (script_refusal cause ≡ Some why)

-- what the file of a name is read as
abbrev pub IsFleetFile : (name : List ℕ) → Option (List ℕ) → Result Fleet Refusal → Type 0
IsFleetFile name None read = read ≡ Err (Absent (visible name))
IsFleetFile name (Some bytes) read =
    ((store_limit < length bytes) × (read ≡ Err (Limit limit.Script)))
    ⊎ ((length bytes ≤ store_limit) × MeansFleet bytes read)

abbrev pub fleet_in : (name : List ℕ) → Steps Fleet
fleet_in name =
    load name (λ bytes. find (Result Fleet Refusal) (IsFleetFile name bytes) by_result)

-- ---- the configurations

-- the file `-` says that a replica isn't in
abbrev pub no_file : List ℕ
no_file = codes "-"

abbrev pub file_of_replica : List ℕ × List ℕ → List (List ℕ)
file_of_replica replica = if bytes_eq replica.1 no_file then [] else replica.1 ∷ []

abbrev pub file_in : ScriptLine → List (List ℕ)
file_in (line.Put resource path plain) = []
file_in (line.Get path) = []
file_in (line.Delete path) = []
file_in line.Rewrite = []
file_in (line.Reload replica file) = file ∷ []
file_in line.Refresh = []
file_in (line.Join replica file) = file ∷ []
file_in (line.Leave replica) = []

-- the files that a fleet names, as often as it names them: its replicas', then its lines'
abbrev pub all_files : Fleet → List (List ℕ)
all_files fleet = flat_map file_of_replica fleet.replicas
    ++ flat_map (λ (worker : Worker). flat_map file_in worker.lines) fleet.workers

-- a configuration with the name of its file
abbrev pub NamedRows : Type 0
NamedRows = List ℕ × List ConfigEntry

abbrev pub named_rows : SettingsFile → NamedRows
named_rows file = (file.name, rows_of file.settings.entries.0)

-- the entries of the file of a name, if it was read
abbrev pub file_entries : List NamedRows → (name : List ℕ) → Option (List ConfigEntry)
file_entries files name = option_map (λ (file : NamedRows). file.1)
    (std.find (λ (file : NamedRows). bytes_eq file.0 name) files)

-- these steps, unless the file was read already
abbrev pub unless_read : Option (List ConfigEntry) → Steps (List NamedRows) → Steps (List NamedRows)
    → Steps (List NamedRows)
unless_read (Some rows) next others = next
unless_read None next others = others

-- each file once, where it is named first
abbrev pub files_in : (read : List NamedRows) → (names : List (List ℕ)) → Steps (List NamedRows)
files_in read [] = give read
files_in read (name ∷ names) = unless_read (file_entries read name) (files_in read names)
    (and_then (configuration name)
    (λ rows. with_memory (files_in (read ++ (name, rows) ∷ []) names)))

-- the entries of all of them
abbrev pub all_rows : List NamedRows → List ConfigEntry
all_rows files = flat_map (λ (file : NamedRows). file.1) files

abbrev pub file_programs : (options : List (List ℕ × List ℕ)) → List NamedRows
    → Steps (List Program)
file_programs options files =
    with_memory (by_result (settings_programs options (plugin_order (all_rows files))))

-- ---- all of it

pub record FleetPlan : Type 0 where
  pub fleet : Fleet
  pub files : List NamedRows
  pub programs : List Program

abbrev pub planning : (file : List ℕ) → (options : List (List ℕ × List ℕ)) → Steps FleetPlan
planning file options =
    and_then (fleet_in file) (λ fleet.
    and_then (files_in [] (all_files fleet)) (λ files.
    and_then (file_programs options files) (λ programs.
    give (record { fleet = fleet; files = files; programs = programs }))))
