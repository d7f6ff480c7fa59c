-- What a reply says of the result that it tells.
use Rattle.std.proofs.Common.{◌≡◌, ℕ, Option, None, Some, Result, Ok, Err, refl}
use Rattle.kr_history.specs.declared.call.CallNo.{CallNo}
use Rattle.kr_history.specs.declared.call.CallNo.TheVariants as refusal
use Rattle.kr_history.specs.Acting.{Caller}
use Rattle.kr_rollout.specs.Callers.{holding}
use Rattle.kr_history.specs.Calls.{IsIdle, IsIdleAfter}
use Rattle.kr_history.specs.declared.outcome.Joining.{Joining}
use Rattle.kr_history.specs.declared.outcome.Joining.TheVariants as joining
use Rattle.kr_fleet.specs.declared.outcome.Loaded.{Loaded}
use Rattle.kr_fleet.specs.declared.outcome.Loaded.TheVariants as loaded
use Rattle.kr_fleet.specs.declared.outcome.Read.{Read}
use Rattle.kr_fleet.specs.declared.outcome.Read.TheVariants as found
use Rattle.kr_rewrite.specs.declared.outcome.Report.{Report}
use Rattle.kr_rewrite.specs.Drives.{IsIdleAtEnd}
use Rattle.kr_script.specs.declared.script.ScriptLine.{ScriptLine}
use Rattle.kr_script.specs.declared.script.ScriptLine.TheVariants as line
use Rattle.kr_workers.specs.Replies.{Reply, told_of_delete, told_of_drive, told_of_join, told_of_leave, told_of_read, told_of_refresh, told_of_refusal, told_of_reload, told_of_write}
use Rattle.kr_workers.specs.inner.Serving.{EndsFor, IsIdleAt, IsShortFor}

-- ---- the seat holds nothing

pub idle_refused : (seat : ℕ) (why : CallNo) (new : Caller) → IsIdleAfter why new
    → IsIdleAt (told_of_refusal seat why) new
idle_refused seat refusal.Spent new h = tt
idle_refused seat other new h = h

pub idle_write : (seat : ℕ) (result : Result ℕ CallNo) (new : Caller) → IsIdle result new
    → IsIdleAt (told_of_write seat result) new
idle_write seat (Ok revision) new h = h
idle_write seat (Err why) new h = idle_refused seat why new h

pub idle_read : (seat : ℕ) (result : Result Read CallNo) (new : Caller) → IsIdle result new
    → IsIdleAt (told_of_read seat result) new
idle_read seat (Ok found.Absent) new h = h
idle_read seat (Ok (found.Value revision plain stale)) new h = h
idle_read seat (Err why) new h = idle_refused seat why new h

pub idle_refresh : (seat : ℕ) (result : Result Loaded CallNo) (new : Caller) → IsIdle result new
    → IsIdleAt (told_of_refresh seat result) new
idle_refresh seat (Ok (loaded.Generation number)) new h = h
idle_refresh seat (Err why) new h = idle_refused seat why new h
idle_refresh seat (Ok other) new h = h

pub idle_drive : (seat : ℕ) (result : Result Report (Report × CallNo)) (new : Caller)
    → IsIdleAtEnd result new → IsIdleAt (told_of_drive seat result) new
idle_drive seat (Ok report) new h = h
idle_drive seat (Err cut) new h = idle_refused seat cut.1 new h

pub idle_always : (reply : Reply) (new : Caller) → holding new.mine ≡ None → IsIdleAt reply new
idle_always (Ok reply) new h = h
idle_always (Err spent) new h = tt

-- ---- where a line is cut short, its call was

spent_err : (T : Type 0) (why : CallNo) → why ≡ refusal.Spent
    → ◌≡◌ {A = Result T CallNo} (Err why) (Err refusal.Spent)
spent_err T why e = λ i. Err (e i)

module _ (asked : ScriptLine) (c : Caller) (seat : ℕ) where
  pub ends_refused : (why : CallNo) → (why ≡ refusal.Spent → IsShortFor asked c)
      → EndsFor asked c (told_of_refusal seat why)
  ends_refused refusal.Spent h = h refl
  ends_refused other h = tt

  -- the call of the line was cut short only where the seat may add fewer lines
  abbrev pub IsFewWhereSpent : {T : Type 0} → Result T CallNo → Type 0
  IsFewWhereSpent {T} result = result ≡ Err refusal.Spent → IsShortFor asked c

  pub ends_write : (result : Result ℕ CallNo) → IsFewWhereSpent result
      → EndsFor asked c (told_of_write seat result)
  ends_write (Ok revision) h = tt
  ends_write (Err why) h = ends_refused why (λ e. h (spent_err ℕ why e))

  pub ends_read : (result : Result Read CallNo) → IsFewWhereSpent result
      → EndsFor asked c (told_of_read seat result)
  ends_read (Ok found.Absent) h = tt
  ends_read (Ok (found.Value revision plain stale)) h = tt
  ends_read (Err why) h = ends_refused why (λ e. h (spent_err Read why e))

  pub ends_delete : (result : Result (Option ℕ) CallNo) → IsFewWhereSpent result
      → EndsFor asked c (told_of_delete seat result)
  ends_delete (Ok None) h = tt
  ends_delete (Ok (Some revision)) h = tt
  ends_delete (Err why) h = ends_refused why (λ e. h (spent_err (Option ℕ) why e))

  pub ends_leave : (result : Result (Option ℕ) CallNo) → IsFewWhereSpent result
      → EndsFor asked c (told_of_leave seat result)
  ends_leave (Ok None) h = tt
  ends_leave (Ok (Some number)) h = tt
  ends_leave (Err why) h = ends_refused why (λ e. h (spent_err (Option ℕ) why e))

  pub ends_join : (result : Result Joining CallNo) → IsFewWhereSpent result
      → EndsFor asked c (told_of_join seat result)
  ends_join (Ok (joining.Generation number)) h = tt
  ends_join (Err why) h = ends_refused why (λ e. h (spent_err Joining why e))
  ends_join (Ok other) h = tt

  pub ends_reload : (result : Result Loaded CallNo) → IsFewWhereSpent result
      → EndsFor asked c (told_of_reload seat result)
  ends_reload (Ok (loaded.Generation number)) h = tt
  ends_reload (Err why) h = ends_refused why (λ e. h (spent_err Loaded why e))
  ends_reload (Ok other) h = tt

  pub ends_refresh : (result : Result Loaded CallNo) → IsFewWhereSpent result
      → EndsFor asked c (told_of_refresh seat result)
  ends_refresh (Ok (loaded.Generation number)) h = tt
  ends_refresh (Err why) h = ends_refused why (λ e. h (spent_err Loaded why e))
  ends_refresh (Ok other) h = tt

-- of a rewrite that was cut short nothing is said
pub ends_drive : (c : Caller) (seat : ℕ) (result : Result Report (Report × CallNo))
    → EndsFor line.Rewrite c (told_of_drive seat result)
ends_drive c seat (Ok report) = tt
ends_drive c seat (Err cut) = ends_refused line.Rewrite c seat cut.1 (λ e. tt)
