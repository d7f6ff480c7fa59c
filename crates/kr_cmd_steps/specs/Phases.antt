-- Phases that commands share: a configuration, a tape that is lent, the input, a row that is
-- written.
use Rattle.std.specs.Prelude.{ℕ, List, Result, Ok, Err, ⊤, if◌then◌else◌, length, nat_lt}
use Rattle.kr_base.specs.Limits.{data_limit, value_limit, store_limit}
use Rattle.kr_config.specs.Kept.{ConfigEntry}
use Rattle.kr_kms.specs.declared.world.Access.{Access}
use Rattle.kr_kms.specs.declared.world.Access.TheVariants.{ToRead}
use Rattle.kr_provider.specs.PluginOrder.{plugin_order}
use Rattle.kr_store.specs.File.{file_bytes}
use Rattle.kr_store.specs.declared.rows.LogRow.{LogRow}
use Rattle.kr_cmd_steps.specs.Configuration.{Entries, IsConfiguration}
use Rattle.kr_cmd_steps.specs.StoreFiles.{Stored, IsStored, with_row}
use Rattle.kr_cmd_steps.specs.Steps.{Steps, load, take_input, borrow_tape, read_tape, write_row, settle, give_back, find, refuse, give, and_then}
use Rattle.kr_cmd_steps.specs.Plugins.{settings_programs}
use Rattle.kr_cmd_messages.specs.declared.command.Direction.{Direction}
use Rattle.kr_cmd_messages.specs.declared.command.Direction.TheVariants.{Encrypt, Decrypt}
use Rattle.kr_base.specs.Visible.{visible}
use Rattle.kr_cmd_messages.specs.declared.refusal.Object.{Object}
use Rattle.kr_cmd_steps.specs.declared.programs.Program.{Program}
use Rattle.kr_cmd_messages.specs.declared.refusal.Refusal.{Refusal}
use Rattle.kr_cmd_messages.specs.declared.refusal.Refusal.TheVariants.{Absent, Limit}
use Rattle.kr_cmd_messages.specs.declared.refusal.Limit.TheVariants as limit
use Rattle.kr_cmd_messages.specs.declared.refusal.Done.TheVariants.{Silent}
use Rattle.kr_cmd_messages.specs.declared.refusal.Outcome.{Outcome}

-- no case
abbrev pub never : {A : Type 0} → Steps A
never = find ⊥ (λ e. ⊤) (λ e. absurd e)

abbrev pub by_result : {A : Type 0} → Result A Refusal → Steps A
by_result (Ok x) = give x
by_result (Err why) = refuse why

-- the configuration in a file
abbrev pub configuration : List ℕ → Steps (List ConfigEntry)
configuration name = load name (λ bytes. find Entries (IsConfiguration name bytes) by_result)

-- the store on a tape that is lent
abbrev pub stored_on : Object → List ℕ → Steps Stored
stored_on object name =
    read_tape object name (λ bytes. find (Result Stored Refusal) (IsStored bytes) by_result)

-- the tape of a name, for these steps
abbrev pub tape_for : {A : Type 0} → List ℕ → (access : Access) → Steps A → Steps A
tape_for name access next = borrow_tape name access (Absent (visible name)) next

-- it is only read; where these steps give something it is back then, before anything else is asked
abbrev pub read_for : {A : Type 0} → List ℕ → Steps A → Steps A
read_for name next = tape_for name ToRead (and_then next (λ made. give_back name (give made)))

-- it is settled before it is back, where these steps give something
abbrev pub settled_for : {A : Type 0} → Object → List ℕ → (access : Access) → Steps A → Steps A
settled_for object name access next =
    tape_for name access (and_then next (λ made. settle object name (give made)))

-- these steps, where there is memory for what they need
abbrev pub with_memory : {A : Type 0} → Steps A → Steps A
with_memory next = find ⊤ (λ u. ⊤) (λ u. next)

-- a text as the output, with nothing beside it
abbrev pub silently : List ℕ → Outcome
silently text = record { bytes = text; done = Silent }

-- a text of which this holds, or a refusal
abbrev pub show : (Result (List ℕ) Refusal → Type 0) → Steps Outcome
show Is = find (Result (List ℕ) Refusal) Is
    (λ shown. and_then (by_result shown) (λ text. give (silently text)))

-- the most bytes of the input: of an object's data, or of a stored value
abbrev pub input_limit : Direction → ℕ
input_limit Encrypt = data_limit
input_limit Decrypt = value_limit

abbrev pub long_input : Direction → Refusal
long_input Encrypt = Limit limit.Data
long_input Decrypt = Limit limit.Value

abbrev pub input_of : Direction → Steps (List ℕ)
input_of direction = take_input (input_limit direction) (long_input direction) give

-- the programs of its plugins, which the options give
abbrev pub linking_programs : List (List ℕ × List ℕ) → List ConfigEntry → Steps (List Program)
linking_programs options rows = with_memory
    (by_result (settings_programs options (plugin_order rows)))

-- the store, if its file is within the limit
abbrev pub within_limit : Stored → Result Stored Refusal
within_limit store = if nat_lt store_limit (length (file_bytes store.format store.rows))
    then Err (Limit limit.Store) else Ok store

-- a row is written behind those of the store, where there is memory and the limit isn't passed
abbrev pub adding : Object → (name : List ℕ) → Stored → LogRow → Steps Stored
adding object name store row = with_memory (and_then (by_result (within_limit (with_row row store)))
    (λ grown. write_row object name store row (give grown)))
