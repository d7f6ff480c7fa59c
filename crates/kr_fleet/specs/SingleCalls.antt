-- `leave` and `delete`: one event.
use Rattle.std.specs.Prelude.{◌≡◌, ◌⊎◌, ℕ, List, Option, None, Some, Result, Ok, Err}
use Rattle.kr_rollout.specs.declared.answer.Answer.TheVariants as answer
use Rattle.kr_history.specs.declared.call.CallNo.{CallNo}
use Rattle.kr_history.specs.declared.call.CallNo.TheVariants as refusal
use Rattle.kr_rollout.specs.declared.event.Event.TheVariants as event
use Rattle.kr_history.specs.Acting.{Caller, AddsEntry}
use Rattle.kr_history.specs.Asking.{AsksLeave}
use Rattle.kr_history.specs.Calls.{AddsNothing}

-- ---- leave: a Leave

abbrev pub IsLeave : (replica : ℕ) → Caller → Result (Option ℕ) CallNo → Caller → Type 0
IsLeave replica old result new = AsksLeave replica old result new

-- ---- delete: a Delete, unless there was no memory for its path

abbrev pub IsDelete : (path : List ℕ) → Caller → Result (Option ℕ) CallNo → Caller → Type 0
IsDelete path old (Ok (Some revision)) new =
    AddsEntry old (event.Delete path) (answer.Written revision) new
IsDelete path old (Ok None) new = AddsEntry old (event.Delete path) answer.Absent new
IsDelete path old (Err refusal.StoreFailed) new =
    AddsEntry old (event.Delete path) answer.StoreFailed new
IsDelete path old (Err (refusal.StoreFull needed)) new =
    AddsEntry old (event.Delete path) (answer.StoreFull needed) new
IsDelete path old (Err refusal.Spent) new = AddsNothing old new
IsDelete path old (Err refusal.NoMemory) new =
    (new ≡ old) ⊎ AddsEntry old (event.Delete path) answer.NoMemory new
IsDelete path old (Err why) new = ⊥
