-- What one line's exchanges with plugins are, and what they bear out: that a plugin failed, what
-- its status was, and which key it has.
use Rattle.std.specs.Prelude.{◌≡◌, ◌≢◌, ◌≤◌, ℕ, true, List, [], length, All, Contains, None, Some, Ok, ⊤}
use Rattle.kr_kms.specs.Exchanges.{Exchange, StatusCall, UnwrapCall, asked_name, is_fault}
use Rattle.kr_kms.specs.Health.{breach_in}
use Rattle.kr_kms.specs.declared.health.Field.{Field}
use Rattle.kr_kms.specs.declared.plugin.Status.{Status}
use Rattle.kr_kms.specs.declared.seeds.SeedRow.{SeedRow}
use Rattle.kr_script.specs.declared.script.ScriptLine.{ScriptLine}
use Rattle.kr_script.specs.declared.script.ScriptLine.TheVariants as line

-- ---- what a line asks

-- a source is unwrapped
abbrev pub IsUnwrap : Exchange → Type 0
IsUnwrap (UnwrapCall key answer) = ⊤
IsUnwrap exchange = ⊥

-- a status is asked, or bytes are wrapped
abbrev pub IsLoad : Exchange → Type 0
IsLoad (UnwrapCall key answer) = ⊥
IsLoad exchange = ⊤

-- a `get` unwraps one source at most, and a `rewrite` unwraps sources; what brings a configuration
-- asks for statuses and wraps; of which key and which bytes, the ties say; all else asks nothing
abbrev pub AsksOf : ScriptLine → List Exchange → Type 0
AsksOf (line.Get path) exchanges = (length exchanges ≤ 1) × All IsUnwrap exchanges
AsksOf line.Rewrite exchanges = All IsUnwrap exchanges
AsksOf (line.Reload replica file) exchanges = All IsLoad exchanges
AsksOf line.Refresh exchanges = All IsLoad exchanges
AsksOf (line.Join replica file) exchanges = All IsLoad exchanges
AsksOf asked exchanges = exchanges ≡ []

-- ---- what that bears out

module _ (exchanges : List Exchange) where
  -- the plugin of this name was asked, and failed
  abbrev pub HasFailed : (name : List ℕ) → Type 0
  HasFailed name = (exchange : Exchange) × Contains exchanges exchange
      × (asked_name exchange ≡ name) × (is_fault exchange ≡ true)

  -- it answered a status that breaks this rule first
  abbrev pub HasBroken : (name : List ℕ) → Field → (text : List ℕ) → Type 0
  HasBroken name field text = (status : Status) × Contains exchanges (StatusCall name (Ok status))
      × (breach_in status ≡ Some (field, text))

  -- it was healthy, and told this key id
  abbrev pub HasKeyId : (name key_id : List ℕ) → Type 0
  HasKeyId name key_id = (status : Status) × Contains exchanges (StatusCall name (Ok status))
      × (breach_in status ≡ None) × (status.key_id ≡ key_id)

  -- each plugin of these seeds was, and told the key id of its seed
  abbrev pub HaveSeedKeys : List SeedRow → Type 0
  HaveSeedKeys seeds = All (λ row. HasKeyId row.name row.key_id) seeds

  -- one of them told another
  abbrev pub HasOtherKey : List SeedRow → Type 0
  HasOtherKey seeds = (row : SeedRow) × Contains seeds row × (key_id : List ℕ)
      × (key_id ≢ row.key_id) × HasKeyId row.name key_id
