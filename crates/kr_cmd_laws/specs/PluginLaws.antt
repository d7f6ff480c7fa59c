-- What plugins see of a command that was done alone.
use Rattle.std.specs.Prelude.{◌≡◌, ℕ, List, [], All, Contains, Some, Ok, length, ⊤}
use Rattle.kr_base.specs.Told.{Agrees}
use Rattle.kr_envelope.specs.declared.object.EncryptedObject.{EncryptedObject}
use Rattle.kr_kms.specs.Exchanges.{Exchange, StatusCall, UnwrapCall, WrapCall}
use Rattle.kr_provider.specs.Envelopes.{IsObjectOf, seed_key}
use Rattle.kr_store.specs.Rows.{live}
use Rattle.kr_store.specs.declared.rows.Row as stored
use Rattle.kr_cmd_messages.specs.Command.{Asks}
use Rattle.kr_cmd_messages.specs.Receipts.{Receipt}
use Rattle.kr_cmd_messages.specs.declared.command.Command.{Command}
use Rattle.kr_cmd_messages.specs.declared.command.Command.TheVariants.{Convert, Get, Put, Rewrite, Verify}
use Rattle.kr_cmd_messages.specs.declared.command.Direction.{Direction}
use Rattle.kr_cmd_messages.specs.declared.command.Direction.TheVariants.{Decrypt, Encrypt}
use Rattle.kr_cmd_messages.specs.declared.command.Lookup.{Lookup}
use Rattle.kr_cmd_messages.specs.declared.command.Rewriting.{Rewriting}
use Rattle.kr_cmd_messages.specs.declared.command.Verification.{Verification}
use Rattle.kr_cmd_steps.specs.Environment.{Environment}
use Rattle.kr_cmd_steps.specs.Ran.{Ran}
use Rattle.kr_cmd_steps.specs.StoreFiles.{IsStored, Stored}
use Rattle.kr_cmd_laws.specs.VerifyLaws.{AreLive}

-- a question for the status; to wrap 32 bytes, as many as a seed has; or to unwrap the source that
-- stands in a value of which this holds, under the value's key id and with its annotations
abbrev pub IsQuestion : (IsHeld : List ℕ → Type 0) → Exchange → Type 0
IsQuestion IsHeld (StatusCall plugin answer) = ⊤
IsQuestion IsHeld (WrapCall plugin plain answer) = length plain ≡ 32
IsQuestion IsHeld (UnwrapCall key answer) = (value name : List ℕ) × (object : EncryptedObject)
    × IsHeld value × IsObjectOf name value (Ok object) × (key ≡ seed_key name object)

-- the value is the input's
abbrev pub IsInput : Direction → Environment → List ℕ → Type 0
IsInput Encrypt old value = ⊥
IsInput Decrypt old value = Agrees old.input value

-- it is the path's in the store
pub record IsStoredValue (words : Lookup) (old : Environment) (value : List ℕ) : Type 0 where
  pub bytes : List ℕ
  pub store : Stored
  pub row : stored.Row
  pub held : Agrees (old.world.tapes.told words.store) (Some bytes)
  pub read : IsStored bytes (Ok store)
  pub found : live store.rows words.path ≡ Some row
  pub is : value ≡ row.stored

-- it is a live row's
pub record IsLiveOf (words : Verification) (old : Environment) (value : List ℕ) : Type 0 where
  pub live : List stored.Row
  pub row : stored.Row
  pub are : AreLive words old live
  pub among : Contains live row
  pub is : value ≡ row.stored

-- a rewrite reads the rows that `verify` would read
abbrev pub verified_as : Rewriting → Verification
verified_as words = record {
  config = words.config;
  store = words.store;
  options = words.options;
}

-- what a command asks a plugin; the others ask nothing
abbrev pub Sees : Command → Environment → Exchange → Type 0
Sees (Convert words) old exchange = IsQuestion (IsInput words.direction old) exchange
Sees (Put words store) old exchange = IsQuestion (λ value. ⊥) exchange
Sees (Get words) old exchange = IsQuestion (IsStoredValue words old) exchange
Sees (Verify words) old exchange = IsQuestion (IsLiveOf words old) exchange
Sees (Rewrite words) old exchange = IsQuestion (IsLiveOf (verified_as words) old) exchange
Sees command old exchange = ⊥

-- of a command that was done with these exchanges
abbrev pub PluginsSee : Type 0
PluginsSee = (words : List (List ℕ)) (old new : Environment) (exchanges : List Exchange)
    (output errors : Receipt) (status : ℕ) → Ran words (record old { heard = Some [] })
    (record new { heard = Some exchanges }) output errors status
    → (command : Command) → Asks words command → All (Sees command old) exchanges
