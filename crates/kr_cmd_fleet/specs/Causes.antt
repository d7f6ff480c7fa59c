-- What the status of a call comes from whose steps lead to workers: the same for a fleet and for a
-- generated load.
use Rattle.std.specs.Prelude.{◌≡◌, ℕ, ◌⊎◌, List, Result, Ok, ⊤}
use Rattle.std.specs.Io.KnownBytes.{Appends}
use Rattle.kr_base.specs.Faults.{Rose}
use Rattle.kr_workers.specs.Endings.{status_of}
use Rattle.kr_workers.specs.declared.ending.Ending.{Ending}
use Rattle.kr_workers.specs.declared.ending.Ending.TheVariants as ending
use Rattle.kr_cmd_steps.specs.Environment.{Environment, StepsEndAt, count_at, faults_at, step_state}
use Rattle.kr_cmd_fleet.specs.Fleets.{Begun}
use Rattle.kr_cmd_messages.specs.Message.{refusal_line, status_of_refusal}
use Rattle.kr_cmd_steps.specs.Ran.{WroteNothing}
use Rattle.kr_cmd_messages.specs.Receipts.{Receipt}
use Rattle.kr_cmd_steps.specs.Steps.{Call, RunTo, StepState, Point, Steps, awaits, gives, refuses}
use Rattle.kr_cmd_messages.specs.declared.refusal.Refusal.{Refusal}
use Rattle.kr_cmd_messages.specs.declared.refusal.Stop.{Stop}

-- no count of the files, tapes, random sources and links rose, nor one of the sinks
pub record NoneRose (old new : Environment) (output errors : Receipt) : Type 0 where
  pub calls : (call : Call) → Rose (faults_at call old) (faults_at call new) → ⊥
  pub written : Rose output.old_faults output.new_faults → ⊥
  pub told : Rose errors.old_faults errors.new_faults → ⊥

-- the workers did their lines, just what these tell was written, and the replies end so
abbrev pub HasEnded : (Result Ending Stop → Type 0) → (errors : Receipt) → Ending → Type 0
HasEnded HasStarted errors ending = HasStarted (Ok ending) × WroteNothing errors

-- a call of the steps up to the workers failed, so that its count and its object's rose
abbrev pub HasFailed : Steps Begun → (old new : Environment) → Call → Type 0
HasFailed steps old new call = StepsEndAt steps (step_state old) new (awaits call)
    × Rose (faults_at call old) (faults_at call new)
    × Rose (count_at call old) (count_at call new)

-- these steps refuse so; only its line was written
abbrev pub HasRefused : Steps Begun → (old new : Environment) → (output errors : Receipt) → Refusal
    → Type 0
HasRefused steps old new output errors why = StepsEndAt steps (step_state old) new (refuses why)
    × WroteNothing output × Appends errors.old errors.new (refusal_line why)

-- the steps up to the workers, over what is told and some drawn bytes, come to this point
abbrev pub WouldBegin : Steps Begun → (old : Environment) → Point Begun → Type 0
WouldBegin steps old point = (end : StepState) × RunTo point end steps (step_state old)

-- `HasStarted`: what the call did once the workers were started, by how it ended
module _ (steps : Steps Begun) (store : List ℕ) (HasStarted : Result Ending Stop → Type 0)
    (old new : Environment) (output errors : Receipt) where
  -- such a point decides how the call ends, but for a fault, 4, and want of memory, 5: by this
  -- refusal, or by the workers' replies
  abbrev pub IsDecidedBy : Point Begun → ℕ → Type 0
  IsDecidedBy (refuses why) status =
      (HasRefused steps old new output errors why × (status ≡ status_of_refusal why))
      ⊎ (status ≡ 4) ⊎ (status ≡ 5)
  IsDecidedBy (gives begun) status =
      ((ending : Ending) × HasEnded HasStarted errors ending × (status ≡ status_of ending))
      ⊎ (status ≡ 4) ⊎ (status ≡ 5)
  IsDecidedBy point status = ⊤

  -- `IsTold`: what these steps go by is told
  pub record Causes (IsTold : Type 0) (status : ℕ) : Type 0 where
    -- 4 comes only where a call, the output or the line failed, or a reply tells a fault, or the
    -- store's tape failed, as where it couldn't be settled behind the workers
    pub caused : status ≡ 4
        → ((call : Call) × HasFailed steps old new call)
        ⊎ Rose (old.world.tapes.faults store) (new.world.tapes.faults store)
        ⊎ Rose output.old_faults output.new_faults
        ⊎ Rose errors.old_faults errors.new_faults
        ⊎ HasEnded HasStarted errors ending.Fault
    -- 1, 3 and 6 only where a step refuses so, or the replies do
    pub refused : (status ≡ 1) ⊎ (status ≡ 3) ⊎ (status ≡ 6)
        → ((why : Refusal) × HasRefused steps old new output errors why
        × (status_of_refusal why ≡ status))
        ⊎ ((ending : Ending) × HasEnded HasStarted errors ending × (status_of ending ≡ status))
    -- 0 only where each reply tells that its line was done
    pub done : status ≡ 0 → HasEnded HasStarted errors ending.Done
    -- 2 never
    pub usage : status ≡ 2 → ⊥
    -- where what these steps go by is told, the last that they come to decides: so they refuse
    -- exactly where one of them would
    pub decided : IsTold → (point : Point Begun) → WouldBegin steps old point
        → IsDecidedBy point status
