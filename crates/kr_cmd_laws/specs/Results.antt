-- Each command ends in one result: what a call does follows from what it is told, and where nothing
-- failed it ends as its steps do.
use Rattle.kr_cmd_steps.specs.Telling.{AnswersOnce, IsTold, MayEnd}
use Rattle.std.specs.Prelude.{◌≡◌, ◌≢◌, ℕ, ◌⊎◌, List, [], Option, Some, IfSome, IsSome, IsSomeAnd, Result, Err}
use Rattle.std.specs.Io.KnownBytes.{Appends}
use Rattle.std.specs.Option.{option_map}
use Rattle.kr_base.specs.Faults.{Rose}
use Rattle.kr_kms.specs.Exchanges.{Exchange}
use Rattle.kr_store.specs.File.{IsFile}
use Rattle.kr_cmd_messages.specs.Command.{Asks, AskBadly}
use Rattle.kr_cmd_messages.specs.Message.{line_of, status_of}
use Rattle.kr_cmd_messages.specs.Receipts.{Receipt}
use Rattle.kr_cmd_messages.specs.declared.command.Command.{Command}
use Rattle.kr_cmd_messages.specs.declared.refusal.BadWords.{BadWords}
use Rattle.kr_cmd_messages.specs.declared.refusal.Done.{Done}
use Rattle.kr_cmd_messages.specs.declared.refusal.Outcome.{Outcome}
use Rattle.kr_cmd_messages.specs.declared.refusal.Stop.{Stop}
use Rattle.kr_cmd_messages.specs.declared.refusal.Stop.TheVariants.{Words}
use Rattle.kr_cmd_steps.specs.Environment.{Environment, faults_at, step_state}
use Rattle.kr_cmd_steps.specs.Commands.{steps}
use Rattle.kr_cmd_steps.specs.Ran.{Comes, GivesWith, IsUntouched, Ran, RefusesWith, end_at}
use Rattle.kr_cmd_steps.specs.Steps.{Call, Point, awaits}
use Rattle.kr_cmd_steps.specs.StoreFiles.{Stored}

-- ---- what is told

-- all files and tapes, the input, and the random source of seat 0: no command draws at another
pub record TellsAll (old : Environment) : Type 0 where
  pub file : (name : List ℕ) → IsSome (old.world.file name)
  pub tapes : (name : List ℕ) → IsSome (old.world.tapes.told name)
  pub input : IsSome old.input
  pub dice : IsSome (old.world.dice.told 0)

-- so there are calls that are told all that they touch
abbrev pub AllIsTold : Type 0
AllIsTold = (command : Command) (old : Environment) (exchanges : List Exchange) → TellsAll old
    → IsTold (Some exchanges) (steps command) (step_state old)

-- what the first tells, the second tells
abbrev pub TellsToo : {T : Type 0} → (first second : Option T) → Type 0
TellsToo first second = IfSome first (λ x. second ≡ Some x)

-- of files, tapes, the input and the random sources
pub record IsToldToo (first second : Environment) : Type 0 where
  pub file : (name : List ℕ) → TellsToo (first.world.file name) (second.world.file name)
  pub tapes : (name : List ℕ)
      → TellsToo (first.world.tapes.told name) (second.world.tapes.told name)
  pub input : TellsToo first.input second.input
  pub dice : (seat : ℕ) → TellsToo (first.world.dice.told seat) (second.world.dice.told seat)

-- ---- a call

-- what was around it before and behind it, what it wrote, and its status
pub record Execution : Type 0 where
  pub old : Environment
  pub new : Environment
  pub output : Receipt
  pub errors : Receipt
  pub status : ℕ

-- no call that the steps come to failed, nor the output, nor the line
pub record NoneFailed (words : List (List ℕ)) (x : Execution) : Type 0 where
  pub calls : (call : Call) → Comes words x.old x.new (awaits call)
      → Rose (faults_at call x.old) (faults_at call x.new) → ⊥
  pub output : Rose x.output.old_faults x.output.new_faults → ⊥
  pub line : Rose x.errors.old_faults x.errors.new_faults → ⊥

-- the call was done with these words and exchanges, if they are told, from where nothing was asked
-- or said; nothing failed, and no memory lacked
pub record WentWell (words : List (List ℕ)) (exchanges : Option (List Exchange)) (x : Execution)
    : Type 0 where
  pub ran : Ran words x.old x.new x.output x.errors x.status
  pub unasked : x.old.heard ≡ option_map (λ told. []) exchanges
  pub unsaid : x.old.said ≡ []
  pub heard : x.new.heard ≡ exchanges
  pub none_failed : NoneFailed words x
  pub memory : x.status ≢ 5

-- ---- one result

-- the same bytes, or files of one store: one without rows has two
abbrev pub HaveSameRows : (one other : Option (List ℕ)) → Type 0
HaveSameRows one other = (other ≡ one)
    ⊎ ((store : Stored) × IsSomeAnd one (IsFile store.format store.rows)
    × IsSomeAnd other (IsFile store.format store.rows))

-- where both tapes are told
abbrev pub HoldAlike : (one other : Option (Option (List ℕ))) → Type 0
HoldAlike one other = IfSome one (λ x. IfSome other (λ y. HaveSameRows x y))

-- both have this status, wrote this text and this line, and left the same rows
pub record HasOneResult (x y : Execution) : Type 0 where
  pub status : y.status ≡ x.status
  pub text : (bytes : List ℕ) × Appends x.output.old x.output.new bytes
      × Appends y.output.old y.output.new bytes
  pub line : (bytes : List ℕ) × Appends x.errors.old x.errors.new bytes
      × Appends y.errors.old y.errors.new bytes
  pub rows : (name : List ℕ)
      → HoldAlike (x.new.world.tapes.told name) (y.new.world.tapes.told name)

-- two calls with the same words and exchanges, of which the first is told all that it touches and
-- the second is told it too, have one result
abbrev pub OneResult : Type 0
OneResult = (words : List (List ℕ)) (exchanges : Option (List Exchange)) (command : Command)
    (x y : Execution) → Asks words command → AnswersOnce exchanges
    → IsTold exchanges (steps command) (step_state x.old) → IsToldToo x.old y.old
    → WentWell words exchanges x → WentWell words exchanges y → HasOneResult x y

-- ---- each call ends as its steps do

-- the words ask for nothing that is done, 2, or for too much, 6
abbrev pub StopsAtWords : List (List ℕ) → Execution → Type 0
StopsAtWords words x = (why : BadWords) × AskBadly why words
    × IsUntouched x.old x.new x.output × (x.status ≡ status_of (Err (Words why)))
    × Appends x.errors.old x.errors.new (line_of (Err (Words why)))

-- the steps give this, 0 or 1, or refuse so, 1, 3 or 6; or the words stop the call; or memory
-- lacked, 5
abbrev pub EndsAsItsSteps : List (List ℕ) → Execution → Type 0
EndsAsItsSteps words x =
    GivesWith words x.old x.new x.output x.errors x.status
    ⊎ RefusesWith words x.old x.new x.output x.errors x.status
    ⊎ StopsAtWords words x
    ⊎ (x.status ≡ 5)

-- where all that a call touches is told, the last step that its own way comes to has its status and
-- its line
abbrev pub IsDecidedBySteps : List (List ℕ) → Option (List Exchange) → Execution → Type 0
IsDecidedBySteps words exchanges x = (command : Command) (point : Point Outcome)
    (end : Result Done Stop) → Asks words command → AnswersOnce exchanges
    → IsTold exchanges (steps command) (step_state x.old)
    → MayEnd exchanges command x.old point → end_at point ≡ Some end
    → (x.status ≡ status_of end) × Appends x.errors.old x.errors.new (line_of end)

-- a call of which nothing failed ends as its steps do, never with 4; and by what is told alone
abbrev pub CompleteCalls : Type 0
CompleteCalls = (words : List (List ℕ)) (x : Execution)
    → (Ran words x.old x.new x.output x.errors x.status → NoneFailed words x
    → EndsAsItsSteps words x × (x.status ≢ 4))
    × ((exchanges : Option (List Exchange)) → WentWell words exchanges x
    → IsDecidedBySteps words exchanges x)
