-- What a fleet needs: that it is told, and that it is there and in form, healthy, goes together and
-- passes no limit. All this is of what is told before the call.
use Rattle.std.specs.Prelude.{◌≡◌, ◌≢◌, ℕ, ◌<◌, List, [], ◌∷◌, length, Contains, All, Option, None, Some, IsSome, Ok, ⊤}
use Rattle.kr_base.specs.Told.{Agrees}
use Rattle.kr_config.specs.Kept.{ConfigEntry, plugins_in}
use Rattle.kr_kms.specs.Health.{breach_in}
use Rattle.kr_kms.specs.declared.plugin.Status.{Status}
use Rattle.kr_opening.specs.Starts.{MayStart}
use Rattle.kr_script.specs.Fleets.{Fleet}
use Rattle.kr_words.specs.Arguments.{plugin_program}
use Rattle.kr_cmd_steps.specs.Environment.{Environment}
use Rattle.kr_cmd_steps.specs.Configuration.{IsConfiguration}
use Rattle.kr_cmd_fleet.specs.FleetFiles.{IsFleetFile, all_files, no_file}
use Rattle.kr_cmd_fleet.specs.Fleets.{AreWithin, parts_of}
use Rattle.kr_cmd_steps.specs.Telling.{AreTold}
use Rattle.kr_cmd_steps.specs.Steps.{or_empty}
use Rattle.kr_cmd_steps.specs.StoreFiles.{IsStored, Stored}
use Rattle.kr_cmd_messages.specs.declared.fleet_words.FleetWords.{FleetWords}

-- the file of a name is told, and means this fleet
abbrev pub TellsFleetFile : Environment → (name : List ℕ) → Fleet → Type 0
TellsFleetFile old name fleet = (file : Option (List ℕ)) × (old.world.file name ≡ Some file)
    × IsFleetFile name file (Ok fleet)

-- or these entries of a configuration
abbrev pub TellsRows : Environment → (name : List ℕ) → List ConfigEntry → Type 0
TellsRows old name rows = (file : Option (List ℕ)) × (old.world.file name ≡ Some file)
    × IsConfiguration name file (Ok rows)

-- the tape of a name is told, and holds the store, or is absent, and a new one holds it
abbrev pub TellsStore : Environment → (name : List ℕ) → Stored → Type 0
TellsStore old name stored = (bytes : List ℕ)
    × (or_empty (old.world.tapes.told name) ≡ Some (Some bytes)) × IsStored bytes (Ok stored)

-- at each of so many seats the link to the plugin tells a status that breaks no rule
abbrev pub IsHealthyAtSeats : Environment → (seats : ℕ) → (plugin : List ℕ) → Type 0
IsHealthyAtSeats old seats plugin = (seat : ℕ) → seat < seats
    → (status : Status) × (old.world.links.told (seat, plugin) ≡ Some status)
    × (breach_in status ≡ None)

-- a configuration is told, and each plugin that it names has a program and is healthy
pub record IsConfigured (words : FleetWords) (old : Environment) (seats : ℕ) (name : List ℕ)
    : Type 0 where
  pub rows : List ConfigEntry
  pub told : TellsRows old name rows
  pub programs : (plugin : List ℕ) → Contains (plugins_in rows) plugin
      → IsSome (plugin_program words.options plugin)
  pub healthy : (plugin : List ℕ) → Contains (plugins_in rows) plugin
      → IsHealthyAtSeats old seats plugin

-- the settings of a replica are the entries of its file; none where it isn't in
abbrev pub HasSettings : Environment → List ℕ × List ℕ → Option (List ConfigEntry) → Type 0
HasSettings old replica None = replica.1 ≡ no_file
HasSettings old replica (Some rows) = (replica.1 ≢ no_file) × TellsRows old replica.1 rows

abbrev pub HaveSettings : Environment → List (List ℕ × List ℕ) → List (Option (List ConfigEntry))
    → Type 0
HaveSettings old [] [] = ⊤
HaveSettings old [] (rows ∷ more) = ⊥
HaveSettings old (replica ∷ replicas) [] = ⊥
HaveSettings old (replica ∷ replicas) (rows ∷ more) =
    HasSettings old replica rows × HaveSettings old replicas more

-- The fleet file is there, and so is each configuration that it names; each plugin has a program
-- and is healthy at each worker's seat; the store is a whole file within its limit, the journal
-- within its own; and what is stored and the replicas' settings go together.
pub record IsReady (words : FleetWords) (old : Environment) : Type 0 where
  pub fleet : Fleet
  pub file : TellsFleetFile old words.file fleet
  pub configured : All (IsConfigured words old (length fleet.workers)) (all_files fleet)
  pub stored : Stored
  pub store : TellsStore old words.store stored
  pub budgets : List ℕ
  pub within : AreWithin stored.rows (parts_of fleet) (Ok budgets)
  pub settings : List (Option (List ConfigEntry))
  pub settings_are : HaveSettings old fleet.replicas settings
  pub fits : MayStart stored.rows settings

-- What the steps up to the workers go by is told, whatever it is: the fleet file, the
-- configurations that it names, the store, and at the first seat the status of each plugin that has
-- a program.
pub record IsFleetTold (words : FleetWords) (old : Environment) : Type 0 where
  pub fleet : IsSome (old.world.file words.file)
  pub files : (file : Option (List ℕ)) (fleet : Fleet) → Agrees (old.world.file words.file) file
      → IsFleetFile words.file file (Ok fleet) → AreTold old.world.file (all_files fleet)
  pub store : IsSome (old.world.tapes.told words.store)
  pub statuses : (plugin : List ℕ) → IsSome (plugin_program words.options plugin)
      → IsSome (old.world.links.told (0, plugin))
