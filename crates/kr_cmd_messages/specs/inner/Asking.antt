-- What the words of a command keep to, as its phases stand on it.
use Rattle.std.specs.Prelude.{◌≡◌, ℕ, ◌≤◌, ◌<◌, List, length, Option, Result, Ok, Err, ⊤, false, Some, None}
use Rattle.kr_words.specs.Arguments.{IsReloadAt}
use Rattle.kr_words.specs.Grammar.{replica_limit, replicas_of}
use Rattle.kr_cmd_messages.specs.declared.refusal.Stop.{Stop}
use Rattle.kr_cmd_messages.specs.declared.refusal.Stop.TheVariants.{Words, NoMemory}
use Rattle.kr_base.specs.Limits.{path_limit}
use Rattle.kr_base.specs.Rules.{IsPath, IsResource}
use Rattle.kr_kms.specs.Outside.{same_name}
use Rattle.kr_cmd_messages.specs.Command.{Asks, AskBadly}
use Rattle.kr_cmd_messages.specs.declared.command.Command.{Command}
use Rattle.kr_cmd_messages.specs.declared.command.Command.TheVariants.{Convert, Put, Get, Migrate, Judge, Plan}

-- there are replicas, not too many, and one of them is to be reloaded
pub record HasReplicas (options : List (List ℕ × List ℕ)) : Type 0 where
  pub some : 1 ≤ replicas_of options
  pub few : replicas_of options ≤ replica_limit
  pub replica : ℕ
  pub file : List ℕ
  pub reload : IsReloadAt options replica file
  pub is_one : replica < replicas_of options

-- the rules of the words that the command's phases stand on
abbrev pub KeepsRules : Option Command → Type 0
KeepsRules None = ⊤
KeepsRules (Some (Convert words)) = length words.path ≤ path_limit
KeepsRules (Some (Put words store)) = IsPath words.path × IsResource words.resource
KeepsRules (Some (Get words)) = length words.path ≤ path_limit
KeepsRules (Some (Migrate words)) = same_name words.store words.to ≡ false
KeepsRules (Some (Judge words)) = HasReplicas words.options
KeepsRules (Some (Plan words)) = (1 ≤ words.replicas) × (words.replicas ≤ replica_limit)
KeepsRules (Some command) = ⊤

-- the words ask for the command, or stop the call
abbrev pub IsReadAs : List (List ℕ) → Result Command Stop → Type 0
IsReadAs words (Ok command) = Asks words command × KeepsRules (Some command)
IsReadAs words (Err (Words why)) = AskBadly why words
IsReadAs words (Err NoMemory) = ⊤
IsReadAs words result = ⊥
