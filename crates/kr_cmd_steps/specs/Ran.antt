-- What a call of `run` did: one relation for all commands, and what follows from it for readers.
use Rattle.std.specs.Prelude.{◌≡◌, ℕ, ◌≤◌, ◌⊎◌, List, [], ◌∷◌, Option, None, Some, Result, Ok, Err, ⊤}
use Rattle.std.specs.Io.KnownBytes.{Appends}
use Rattle.std.specs.Option.{option_map}
use Rattle.kr_base.specs.Faults.{Rose}
use Rattle.kr_base.specs.Streams.{AppendsFront}
use Rattle.kr_kms.specs.declared.world.WorldCall.TheVariants.{Settled}
use Rattle.kr_cmd_steps.specs.Environment.{Environment, with_what_is_said, step_state, faults_at, count_at, IsHome, IsFault, MayLack, IsStateOf}
use Rattle.kr_cmd_messages.specs.Command.{Asks, AskNothing, AskPage, AskReplicas, AskSize, AskBadly}
use Rattle.kr_cmd_steps.specs.Commands.{steps}
use Rattle.kr_cmd_messages.specs.Message.{status_of, status_of_done, status_of_refusal, line_of, refusal_line, fault_line, done_line}
use Rattle.kr_cmd_steps.specs.Steps.{Call, settling, object_of, Point, awaits, amid, refuses, gives, StepState, with_asked, with_said, IsAt, RunTo}
use Rattle.kr_cmd_steps.specs.Telling.{AnswersOnce, IsTold, MayEnd}
use Rattle.kr_cmd_messages.specs.declared.command.Command.{Command}
use Rattle.kr_cmd_messages.specs.declared.command.Command.TheVariants.{Rewrite}
use Rattle.kr_cmd_messages.specs.declared.refusal.Object.TheVariants.{Output, Store}
use Rattle.kr_cmd_messages.specs.declared.refusal.Refusal.{Refusal}
use Rattle.kr_cmd_messages.specs.declared.refusal.Stop.{Stop}
use Rattle.kr_cmd_messages.specs.declared.refusal.Stop.TheVariants.{Words, Refused, Fault, NoMemory}
use Rattle.kr_cmd_messages.specs.declared.refusal.Done.{Done}
use Rattle.kr_cmd_messages.specs.declared.refusal.Outcome.{Outcome}
use Rattle.kr_cmd_messages.specs.Receipts.{Receipt, Tells}

-- nothing was written
abbrev pub WroteNothing : Receipt → Type 0
WroteNothing sink = (sink.new ≡ sink.old) × (sink.new_faults ≡ sink.old_faults)

-- just what was said was written, or a prefix of it before the output failed
abbrev pub Reports : List ℕ → Receipt → Type 0
Reports [] output = WroteNothing output
Reports (byte ∷ bytes) output = Appends output.old output.new (byte ∷ bytes)
    ⊎ (AppendsFront output.old output.new (byte ∷ bytes)
    × Rose output.old_faults output.new_faults)

-- nothing around was touched
abbrev pub IsUntouched : Environment → Environment → Receipt → Type 0
IsUntouched old new output = (new ≡ old) × WroteNothing output

-- ---- how a command ends

-- the tape of whose rows a command says what became where it is stopped
abbrev pub ReportsOf : Command → (name : List ℕ) → Type 0
ReportsOf (Rewrite words) name = name ≡ words.store
ReportsOf command name = ⊥

-- steps were stopped
abbrev pub IsStop : Point Outcome → Type 0
IsStop (gives made) = ⊥
IsStop stop = ⊤

-- they were not, or said nothing
abbrev pub SaysNothing : Point Outcome → (end : StepState) → Type 0
SaysNothing (gives made) end = ⊤
SaysNothing stop end = end.said ≡ []

-- steps came to this end, and the command to that: what they say in place of a value stands once
-- the tape of those rows is settled, of which the world is told; where it can't be settled nothing
-- is said, and this is where the command ends
abbrev pub Closes : Command → (stop : Point Outcome) → (end : StepState) → (point : Point Outcome)
    → (last : StepState) → Type 0
Closes command stop end point last =
    (SaysNothing stop end × IsAt point last stop end)
    ⊎ (IsStop stop × ((name : List ℕ) × ReportsOf command name × (
    IsAt point last stop (with_asked (Settled name) end)
    ⊎ IsAt point last (awaits (settling Store name)) (with_said [] end))))

-- from what is left the command comes to this point, and nothing was done but by that
pub record ReachesEnd (command : Command) (left : StepState) (new : Environment)
    (point : Point Outcome) : Type 0 where
  pub stop : Point Outcome
  pub end : StepState
  pub last : StepState
  pub goes : RunTo stop end (steps command) left
  pub closes : Closes command stop end point last
  pub stays : IsStateOf last new

-- it ends there as steps do
abbrev pub EndsAll : Command → StepState → Environment → Environment → Result Outcome Stop → Type 0
EndsAll command left old new (Ok made) = ReachesEnd command left new (gives made)
EndsAll command left old new (Err (Words why)) = ⊥
EndsAll command left old new (Err (Refused why)) = ReachesEnd command left new (refuses why)
EndsAll command left old new (Err (Fault object count)) =
    (call : Call) × ReachesEnd command left new (awaits call) × IsFault call object count old new
EndsAll command left old new (Err NoMemory) =
    ((call : Call) × MayLack call × ReachesEnd command left new (awaits call))
    ⊎ ReachesEnd command left new amid

-- ---- what a call did

-- the words ask for a command, and it ended so
pub record Did (words : List (List ℕ)) (old new : Environment) (made : Result Outcome Stop)
    : Type 0 where
  pub command : Command
  pub asks : Asks words command
  pub home : IsHome old new
  pub ends : EndsAll command (step_state old) old new made

-- the value of a command was written; where the output fails, a prefix of it; where a step ended
-- the command, that stands, and what was said was written
abbrev pub Writes : List ℕ → Receipt → Result Outcome Stop → Result Done Stop → Type 0
Writes said output (Ok made) (Ok done) =
    (done ≡ made.done) × Appends output.old output.new made.bytes
Writes said output (Ok made) (Err (Fault object count)) =
    AppendsFront output.old output.new made.bytes × (object ≡ Output)
    × Rose output.old_faults output.new_faults × (count ≡ output.new_faults)
Writes said output (Ok made) (Err stop) = ⊥
Writes said output (Err stop) result = (result ≡ Err stop) × Reports said output

-- the words stop the call before anything is done, or there is no memory to read them
abbrev pub StopsAtOnce : List (List ℕ) → Result Done Stop → Type 0
StopsAtOnce words (Err (Words why)) = AskBadly why words
StopsAtOnce words (Err NoMemory) = ⊤
StopsAtOnce words result = ⊥

abbrev pub Answers : List (List ℕ) → Environment → Environment → Receipt → Result Done Stop → Type 0
Answers words old new output result =
    (StopsAtOnce words result × IsUntouched old new output)
    ⊎ ((said : List ℕ) × (made : Result Outcome Stop)
    × Did words old (with_what_is_said said new) made × Writes said output made result)

pub record Ran (words : List (List ℕ)) (old new : Environment) (output errors : Receipt)
    (status : ℕ) : Type 0 where
  pub result : Result Done Stop
  pub answers : Answers words old new output result
  pub tells : Tells (line_of result) (status_of result) errors status
  pub written : output.old_faults ≤ output.new_faults
  pub told : errors.old_faults ≤ errors.new_faults

-- ---- what follows from it, for readers

-- the words ask for a command that comes to this point, where this was said
pub record ComesSaying (words : List (List ℕ)) (old new : Environment) (said : List ℕ)
    (point : Point Outcome) : Type 0 where
  pub command : Command
  pub asks : Asks words command
  pub reaches : ReachesEnd command (step_state old) (with_what_is_said said new) point
  pub home : IsHome old new

-- whatever was said
abbrev pub Comes : List (List ℕ) → (old new : Environment) → Point Outcome → Type 0
Comes words old new point = (said : List ℕ) × ComesSaying words old new said point

-- and nothing else was written
abbrev pub ComesReporting : List (List ℕ) → (old new : Environment) → Receipt → Point Outcome
    → Type 0
ComesReporting words old new output point =
    (said : List ℕ) × ComesSaying words old new said point × Reports said output

-- status 2 comes only where the words ask for nothing; and where they do, 2 comes, but for a limit
-- that they pass, want of memory, and a line that couldn't be written
abbrev pub IsUsage : List (List ℕ) → Receipt → ℕ → Type 0
IsUsage words errors status =
    (status ≡ 2 → AskNothing words)
    × (AskNothing words →
    (status ≡ 2)
    ⊎ (status ≡ 5)
    ⊎ ((status ≡ 6) × (AskReplicas words ⊎ AskSize words ⊎ AskPage words))
    ⊎ ((status ≡ 4) × Rose errors.old_faults errors.new_faults))

-- the steps come to a call that failed, so that its count and its object's rose; nothing was
-- written but what was said, and the line, which has the object and its count
abbrev pub FailsAt : List (List ℕ) → Environment → Environment → Receipt → Receipt → Call → Type 0
FailsAt words old new output errors call =
    ComesReporting words old new output (awaits call)
    × Rose (faults_at call old) (faults_at call new)
    × Rose (count_at call old) (count_at call new)
    × Appends errors.old errors.new (fault_line (object_of call) (count_at call new))

-- the steps come to a value, of which a prefix was written before the output failed; the line has
-- the output's count
abbrev pub FailsToWrite : List (List ℕ) → Environment → Environment → Receipt → Receipt → Outcome
    → Type 0
FailsToWrite words old new output errors made =
    Comes words old new (gives made) × AppendsFront output.old output.new made.bytes
    × Rose output.old_faults output.new_faults
    × Appends errors.old errors.new (fault_line Output output.new_faults)

-- status 4 comes only where a call, the output or the line failed
abbrev pub IsCaused : List (List ℕ) → Environment → Environment → Receipt → Receipt → ℕ → Type 0
IsCaused words old new output errors status =
    status ≡ 4
    → ((call : Call) × FailsAt words old new output errors call)
    ⊎ ((made : Outcome) × FailsToWrite words old new output errors made)
    ⊎ Rose errors.old_faults errors.new_faults

-- the steps refuse so, with this status, and nothing was written but what was said, and the line
abbrev pub RefusesWith : List (List ℕ) → Environment → Environment → Receipt → Receipt → ℕ → Type 0
RefusesWith words old new output errors status =
    (why : Refusal) × ComesReporting words old new output (refuses why)
    × (status_of_refusal why ≡ status) × Appends errors.old errors.new (refusal_line why)

-- the steps give a value with this status, and just that was written, and its line
abbrev pub GivesWith : List (List ℕ) → Environment → Environment → Receipt → Receipt → ℕ → Type 0
GivesWith words old new output errors status =
    (made : Outcome) × Comes words old new (gives made) × (status_of_done made.done ≡ status)
    × Appends output.old output.new made.bytes
    × Appends errors.old errors.new (done_line made.done)

-- status 1, 3 or 6 comes only where a step refuses so or a value has this status of its own; or,
-- status 6, where the words pass a limit
abbrev pub IsRefused : List (List ℕ) → Environment → Environment → Receipt → Receipt → ℕ → Type 0
IsRefused words old new output errors status =
    (status ≡ 1) ⊎ (status ≡ 3) ⊎ (status ≡ 6)
    → RefusesWith words old new output errors status
    ⊎ GivesWith words old new output errors status
    ⊎ ((status ≡ 6) × (AskReplicas words ⊎ AskSize words ⊎ AskPage words)
    × IsUntouched old new output)

-- how the last step of a command ends it, whatever its value is
abbrev pub end_at : Point Outcome → Option (Result Done Stop)
end_at (refuses why) = Some (Err (Refused why))
end_at (gives made) = Some (Ok made.done)
end_at point = None

-- nothing of what plugins are asked was told before
abbrev pub IsUnasked : (old new : Environment) → Type 0
IsUnasked old new = old.heard ≡ option_map (λ told. []) new.heard

-- where all that a call touches is told, the last step that its own way comes to decides the status
-- and the line, whatever it wrote; only a fault, 4, and want of memory, 5, stand in its place. So
-- 1, 3 and 6 come exactly where that step refuses so
abbrev pub IsDecided : List (List ℕ) → (old new : Environment) → Receipt → ℕ → Type 0
IsDecided words old new errors status =
    (command : Command) (point : Point Outcome) (end : Result Done Stop) → Asks words command
    → IsUnasked old new → AnswersOnce new.heard → IsTold new.heard (steps command) (step_state old)
    → MayEnd new.heard command old point → end_at point ≡ Some end
    → ((status ≡ status_of end) × Appends errors.old errors.new (line_of end))
    ⊎ (status ≡ 4) ⊎ (status ≡ 5)

-- whatever the status is, the output has what it had, and behind it just what was said, or at most
-- a prefix of the value that the steps give; at status 2 nothing was touched
pub record IsOutputWritten (words : List (List ℕ)) (old new : Environment) (output : Receipt)
    (status : ℕ) : Type 0 where
  pub front : WroteNothing output
      ⊎ ((point : Point Outcome) × ComesReporting words old new output point)
      ⊎ ((made : Outcome) × Comes words old new (gives made)
      × AppendsFront output.old output.new made.bytes)
  pub usage : status ≡ 2 → IsUntouched old new output

pub record Readings (words : List (List ℕ)) (old new : Environment) (output errors : Receipt)
    (status : ℕ) : Type 0 where
  pub usage : IsUsage words errors status
  pub caused : IsCaused words old new output errors status
  pub refused : IsRefused words old new output errors status
  pub decided : IsDecided words old new errors status
  -- status 0 comes only where the steps give a value, and then just that was written, and its line
  pub done : status ≡ 0 → GivesWith words old new output errors 0
  pub written : IsOutputWritten words old new output status
