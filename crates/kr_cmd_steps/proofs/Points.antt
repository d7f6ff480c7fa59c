-- The points at which steps end a command, or give.
use Rattle.std.proofs.Common.{◌≡◌, List, ℕ}
use Rattle.kr_cmd_steps.specs.Steps.{Point, awaits, amid, refuses, gives, settling, writing}
use Rattle.kr_cmd_messages.specs.declared.refusal.Done.TheVariants.{Silent}
use Rattle.kr_cmd_messages.specs.declared.refusal.Limit as limits
use Rattle.kr_cmd_messages.specs.declared.refusal.Object.{Object}
use Rattle.kr_cmd_messages.specs.declared.refusal.Outcome.{Outcome}
use Rattle.kr_cmd_messages.specs.declared.refusal.Refusal.TheVariants.{Limit}

-- no value
abbrev pub IsShort : {A : Type 0} → Point A → Type 0
IsShort (gives x) = ⊥
IsShort other = Unit {0}

-- memory lacks between two calls, or a limit would be passed
abbrev pub IsAmidRows : {A : Type 0} → Point A → Type 0
IsAmidRows (awaits call) = ⊥
IsAmidRows amid = Unit {0}
IsAmidRows (refuses why) = (which : limits.Limit) × (why ≡ Limit which)
IsAmidRows (gives x) = ⊥

-- a write to the store
abbrev pub IsTorn : {A : Type 0} → Object → (store : List ℕ) → Point A → Type 0
IsTorn object store (awaits call) = call ≡ writing object store
IsTorn object store other = ⊥

-- a value with nothing beside it, or the settling in front of it
abbrev pub IsThrough : Object → (store : List ℕ) → Point Outcome → Type 0
IsThrough object store (awaits call) = call ≡ settling object store
IsThrough object store amid = ⊥
IsThrough object store (refuses why) = ⊥
IsThrough object store (gives x) = x.done ≡ Silent
