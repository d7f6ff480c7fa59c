-- What the phases of a command give to it: each result is said by cases, and want of memory alone
-- is free.
use Rattle.std.specs.Prelude.{◌≡◌, ℕ, ◌+◌, ◌≤◌, ◌⊎◌, List, length, Option, Result, Ok, Err, ⊤}
use Rattle.std.specs.Io.KnownBytes.{Consumes, IsAtEnd}
use Rattle.kr_base.specs.Faults.{Rose}
use Rattle.kr_base.specs.Told.{Agrees}
use Rattle.kr_base.specs.Streams.{TakesAtMost}
use Rattle.kr_kms.specs.Calls.{Link}
use Rattle.kr_kms.specs.Outside.{Outside, with_call, file_faults, same_seat, same_link, link_at, KeepsFiles, HandsOut, TakesBack}
use Rattle.kr_kms.specs.declared.world.WorldCall.{WorldCall}
use Rattle.kr_kms.specs.declared.world.WorldCall.TheVariants as calls
use Rattle.kr_kms.specs.declared.world.WorldCall.TheVariants.{RandomSource}
use Rattle.kr_config.specs.Kept.{ConfigEntry, rows_of}
use Rattle.kr_config.specs.declared.settings.Settings.{Settings}
use Rattle.kr_config.specs.Meanings.{MeansConfig}
use Rattle.kr_config.specs.declared.refusal.ConfigNo.{ConfigNo}
use Rattle.kr_cmd_steps.specs.Environment.{Environment, IsStateOf, IsHome, Ends, with_world}
use Rattle.kr_cmd_steps.specs.Phases.{configuration, linking_programs, silently}
use Rattle.kr_cmd_steps.specs.Configuration.{Entries, IsConfiguration}
use Rattle.kr_cmd_steps.specs.Steps.{Steps, StepState}
use Rattle.kr_cmd_steps.specs.declared.programs.Program.{Program}
use Rattle.kr_cmd_messages.specs.declared.refusal.Object.TheVariants.{Input, Files}
use Rattle.kr_cmd_messages.specs.declared.refusal.Outcome.{Outcome}
use Rattle.kr_cmd_messages.specs.declared.refusal.Refusal.{Refusal}
use Rattle.kr_cmd_messages.specs.declared.refusal.Refusal.TheVariants.{Configuration}
use Rattle.kr_cmd_messages.specs.declared.refusal.Stop.{Stop}
use Rattle.kr_cmd_messages.specs.declared.refusal.Stop.TheVariants.{Refused, Fault, NoMemory}

-- ---- any phase

-- wherever a command comes to these steps, they end so
pub record Does {A : Type 0} (next : Steps A) (old new : Environment)
    (result : Result A Stop) : Type 0 where
  pub home : IsHome old new
  pub ends : (left : StepState) → IsStateOf left old → Ends next left old new result

-- ---- the world

-- the call was made on the world, and no other; where there was no memory, perhaps not even this
abbrev pub AskedUnless : (old new : Option (List WorldCall)) → WorldCall → Stop → Type 0
AskedUnless old new call NoMemory = (new ≡ old) ⊎ (new ≡ with_call call old)
AskedUnless old new call why = new ≡ with_call call old

abbrev pub AskedFor : {T : Type 0} → (old new : Option (List WorldCall)) → WorldCall
    → Result T Stop → Type 0
AskedFor old new call (Ok x) = new ≡ with_call call old
AskedFor old new call (Err why) = AskedUnless old new call why

-- the settings that the bytes mean, or the breach
abbrev pub ReadsRows : List ℕ → Result Settings Stop → Type 0
ReadsRows bytes (Ok settings) = MeansConfig bytes (Ok (rows_of settings.entries.0))
ReadsRows bytes (Err (Refused why)) =
    (breach : ConfigNo) × MeansConfig bytes (Err breach) × (why ≡ Configuration breach)
ReadsRows bytes (Err NoMemory) = ⊤
ReadsRows bytes result = ⊥

-- the rows in settings
abbrev pub rows_in : Result Settings Stop → Result (List ConfigEntry) Stop
rows_in (Ok settings) = Ok (rows_of settings.entries.0)
rows_in (Err stop) = Err stop

-- the settings of a file with the programs of their plugins, or why it ended before
abbrev pub HasPrograms : (old new : Outside) → List ℕ → List (List ℕ × List ℕ)
    → Result (Settings × List Program) Stop → Type 0
HasPrograms old new name options (Ok (settings, programs)) =
    let rows = rows_of settings.entries.0 in
    ((a : Environment) → Does (configuration name) (with_world old a) (with_world new a) (Ok rows))
    × ((a : Environment) → Does (linking_programs options rows) a a (Ok programs))
HasPrograms old new name options (Err stop) =
    ((a : Environment) → Does (configuration name) (with_world old a) (with_world new a) (Err stop))
    ⊎ ((rows : List ConfigEntry)
    × ((a : Environment) → Does (configuration name) (with_world old a) (with_world new a)
    (Ok rows))
    × ((a : Environment) → Does (linking_programs options rows) a a (Err stop)))

-- the file of a name is read so
abbrev pub IsFileRead : Outside → List ℕ → Entries → Type 0
IsFileRead old name read =
    (file : Option (List ℕ)) × Agrees (old.file name) file × IsConfiguration name file read

-- the configuration in a file, or why it wasn't read
abbrev pub Configures : (old new : Outside) → List ℕ → Result Settings Stop → Type 0
Configures old new name (Ok settings) = IsFileRead old name (Ok (rows_of settings.entries.0))
Configures old new name (Err (Refused why)) = IsFileRead old name (Err why)
Configures old new name (Err (Fault object count)) =
    (object ≡ Files) × Rose old.faults.loads new.faults.loads × (count ≡ file_faults new)
Configures old new name (Err NoMemory) = ⊤
Configures old new name result = ⊥

-- why nothing was handed out: the count of faults of such calls rose; that of all files is this
abbrev pub LendsNothing : (old new count : ℕ) → Stop → Type 0
LendsNothing old new count (Fault object n) = (object ≡ Files) × Rose old new × (n ≡ count)
LendsNothing old new count NoMemory = ⊤
LendsNothing old new count why = ⊥

-- the random source of the seat was handed out, and nothing else done but the call noted
pub record DiceLoan (seat : ℕ) (old new : Outside) (left : Option (List ℕ)) (count : ℕ)
    : Type 0 where
  pub out : HandsOut same_seat old.dice new.dice seat count
  pub left_is : left ≡ old.dice.told seat
  pub files : KeepsFiles old new
  pub asked : new.asked ≡ with_call (RandomSource seat) old.asked
  pub tapes : new.tapes ≡ old.tapes
  pub links : new.links ≡ old.links

-- it came back, and nothing else was done
pub record DiceReturn (seat : ℕ) (old new : Outside) (left : Option (List ℕ)) (count : ℕ)
    : Type 0 where
  pub home : TakesBack same_seat old.dice new.dice seat count
  pub left_is : new.dice.told seat ≡ left
  pub file : new.file ≡ old.file
  pub faults : new.faults ≡ old.faults
  pub asked : new.asked ≡ old.asked
  pub tapes : new.tapes ≡ old.tapes
  pub links : new.links ≡ old.links

-- the link of the seat to the plugin was handed out, and nothing else done but the call noted
pub record LinkLoan (seat : ℕ) (plugin program : List ℕ) (old new : Outside) (link : Link)
    : Type 0 where
  pub out : HandsOut same_link old.links new.links (seat, plugin) link.count
  pub link_is : link ≡ link_at old.links seat plugin
  pub files : KeepsFiles old new
  pub asked : new.asked ≡ with_call (calls.Link seat plugin program) old.asked
  pub tapes : new.tapes ≡ old.tapes
  pub dice : new.dice ≡ old.dice

-- it came back, and nothing else was done
pub record LinkReturn (seat : ℕ) (old new : Outside) (link : Link) : Type 0 where
  pub home : TakesBack same_link old.links new.links (seat, link.name) link.count
  pub status_is : new.links.told (seat, link.name) ≡ link.status
  pub file : new.file ≡ old.file
  pub faults : new.faults ≡ old.faults
  pub asked : new.asked ≡ old.asked
  pub tapes : new.tapes ≡ old.tapes
  pub dice : new.dice ≡ old.dice

-- ---- the input

-- the whole input of at most so many bytes, or one more
abbrev pub TakesInput : ℕ → Refusal → (old new : Option (List ℕ)) (before count : ℕ)
    → Result (List ℕ) Stop → Type 0
TakesInput limit long old new before count (Ok bytes) =
    Consumes old new bytes × IsAtEnd new × (length bytes ≤ limit)
TakesInput limit long old new before count (Err (Refused why)) =
    (why ≡ long) × ((bytes : List ℕ) × Consumes old new bytes × (length bytes ≡ limit + 1))
TakesInput limit long old new before count (Err (Fault object n)) =
    (object ≡ Input) × Rose before count × (n ≡ count) × TakesAtMost old new limit
TakesInput limit long old new before count (Err NoMemory) = TakesAtMost old new limit
TakesInput limit long old new before count result = ⊥

-- ---- texts

-- a text as it has to be, or its refusal
abbrev pub Yields : (Result (List ℕ) Refusal → Type 0) → Result (List ℕ) Stop → Type 0
Yields Is (Ok text) = Is (Ok text)
Yields Is (Err (Refused why)) = Is (Err why)
Yields Is (Err NoMemory) = ⊤
Yields Is result = ⊥

-- a text as what a command makes
abbrev pub shown_as : Result (List ℕ) Stop → Result Outcome Stop
shown_as (Ok text) = Ok (silently text)
shown_as (Err stop) = Err stop
