-- What must be told for a call to be decided, computed from the steps that it passes.
use Rattle.std.specs.Prelude.{◌≡◌, ℕ, ◌≤◌, List, [], ◌∷◌, ◌++◌, length, Contains, Option, None, Some, IsSome, IsSomeAnd, Ok, ⊤}
use Rattle.kr_kms.specs.Exchanges.{Exchange, StatusCall, WrapCall, UnwrapCall}
use Rattle.kr_kms.specs.Outside.{makes}
use Rattle.kr_kms.specs.declared.plugin.Status.{Status}
use Rattle.kr_kms.specs.declared.plugin.Wrapped.{Wrapped}
use Rattle.kr_kms.specs.declared.seeds.SeedKey.{SeedKey}
use Rattle.kr_cmd_messages.specs.declared.command.Command.{Command}
use Rattle.kr_cmd_messages.specs.declared.refusal.Outcome.{Outcome}
use Rattle.kr_cmd_steps.specs.Environment.{Environment, step_state}
use Rattle.kr_cmd_steps.specs.Commands.{steps}
use Rattle.kr_cmd_steps.specs.Steps.{Steps, load, take_input, borrow_dice, borrow_tape, read_tape, write_row, keep_rows, settle, give_back, draw, borrow_link, ask_status, wrap, unwrap, note, find, refuse, give, Point, StepState, RunTo, MayBorrow, with_dice, with_input, with_tape, with_told}

-- each of the files is told
abbrev pub AreTold : (List ℕ → Option (Option (List ℕ))) → (names : List (List ℕ)) → Type 0
AreTold file [] = ⊤
AreTold file (name ∷ names) = IsSome (file name) × AreTold file names

-- the exchanges are told, and this is one of them
abbrev pub IsAmong : Option (List Exchange) → Exchange → Type 0
IsAmong exchanges exchange = IsSomeAnd exchanges (λ told. Contains told exchange)

-- all that steps touch is told: what they load, take, read and draw on the way that they go by what
-- is told, what they find and what plugins answer in these exchanges, which are told where they ask
-- any. What stands behind the step that ends them needn't be told, and a tape that they wrote tells
-- nothing more
module _ (exchanges : Option (List Exchange)) where
  abbrev pub IsTold : {A : Type 0} → Steps A → StepState → Type 0
  IsTold (load name next) told = IsSome (told.file name)
      × ((file : Option (List ℕ)) → told.file name ≡ Some file → IsTold (next file) told)
  IsTold (take_input limit long next) told = IsSome told.input
      × ((bytes : List ℕ) → told.input ≡ Some bytes → length bytes ≤ limit
      → IsTold (next bytes) (with_input (Some []) told))
  IsTold (borrow_dice seat next) told = IsTold next told
  IsTold (borrow_tape name access absent next) told = IsSome (told.tapes name)
      × (MayBorrow (told.tapes name) (makes access)
      → IsTold next (with_tape (makes access) name told))
  IsTold (read_tape object name next) told = IsSome (told.tapes name)
      × ((bytes : List ℕ) → told.tapes name ≡ Some (Some bytes) → IsTold (next bytes) told)
  IsTold (write_row object name store row next) told = IsTold next (with_told name None told)
  IsTold (keep_rows name store next) told = IsTold next (with_told name None told)
  IsTold (settle object name next) told = IsTold next told
  IsTold (give_back name next) told = IsTold next told
  IsTold (draw seat size next) told = IsSome (told.dice seat)
      × ((bytes rest : List ℕ) → told.dice seat ≡ Some (bytes ++ rest) → length bytes ≡ size
      → IsTold (next bytes) (with_dice seat (Some rest) told))
  IsTold (borrow_link seat plugin program next) told = IsTold next told
  IsTold (ask_status seat plugin next) told = IsSome exchanges
      × ((status : Status) → IsAmong exchanges (StatusCall plugin (Ok status))
      → IsTold (next status) told)
  IsTold (wrap seat plugin plain next) told = IsSome exchanges
      × ((wrapped : Wrapped) → IsAmong exchanges (WrapCall plugin plain (Ok wrapped))
      → IsTold (next wrapped) told)
  IsTold (unwrap seat key next) told = IsSome exchanges
      × ((bytes : List ℕ) → IsAmong exchanges (UnwrapCall key (Ok bytes))
      → IsTold (next bytes) told)
  IsTold (note text next) told = IsTold next told
  IsTold (find B P next) told = (b : B) → P b → IsTold (next b) told
  IsTold (refuse why) told = ⊤
  IsTold (give x) told = ⊤

-- a source that was unwrapped more than once was answered with one thing
abbrev pub AnswersOnce : Option (List Exchange) → Type 0
AnswersOnce exchanges = (key : SeedKey) (a b : List ℕ) → IsAmong exchanges (UnwrapCall key (Ok a))
    → IsAmong exchanges (UnwrapCall key (Ok b)) → b ≡ a

-- with these exchanges the steps of the command may end so over what is told
pub record MayEnd (exchanges : Option (List Exchange)) (command : Command) (old : Environment)
    (point : Point Outcome) : Type 0 where
  pub end : StepState
  pub goes : RunTo point end (steps command) (step_state old)
  pub heard : end.heard ≡ exchanges
