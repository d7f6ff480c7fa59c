-- One event of a caller, asked by a call of its own: what the event can be answered, and what is
-- added so.
use Rattle.std.specs.Prelude.{◌≡◌, ℕ, List, Option, None, Some, Result, Ok, Err}
use Rattle.kr_provider.specs.Publication.{Publication}
use Rattle.kr_store.specs.declared.rows.Row.{Row}
use Rattle.kr_rollout.specs.declared.answer.Answer.TheVariants as answer
use Rattle.kr_rollout.specs.declared.event.Event.{Event}
use Rattle.kr_rollout.specs.declared.event.Event.TheVariants as event
use Rattle.kr_history.specs.declared.call.CallNo.{CallNo}
use Rattle.kr_history.specs.declared.call.CallNo.TheVariants as refusal
use Rattle.kr_history.specs.declared.outcome.Joining.{Joining}
use Rattle.kr_history.specs.declared.outcome.Joining.TheVariants as joining
use Rattle.kr_history.specs.declared.outcome.Reloading.{Reloading}
use Rattle.kr_history.specs.declared.outcome.Reloading.TheVariants as reloading
use Rattle.kr_history.specs.declared.outcome.Replacing.{Replacing}
use Rattle.kr_history.specs.declared.outcome.Replacing.TheVariants as replacing
use Rattle.kr_history.specs.Acting.{Caller, AddsEntry}
use Rattle.kr_history.specs.Calls.{AddsNothing}

-- ---- what cuts events short

-- the event was answered that there is no memory, or the seat may add no more lines
abbrev pub EndsShort : Event → Caller → CallNo → Caller → Type 0
EndsShort asked old refusal.NoMemory new = AddsEntry old asked answer.NoMemory new
EndsShort asked old refusal.Spent new = AddsNothing old new
EndsShort asked old why new = ⊥

-- so does an event that would write a row, or the store failed or is full
abbrev pub WritesNothing : Event → Caller → CallNo → Caller → Type 0
WritesNothing asked old refusal.StoreFailed new = AddsEntry old asked answer.StoreFailed new
WritesNothing asked old (refusal.StoreFull needed) new =
    AddsEntry old asked (answer.StoreFull needed) new
WritesNothing asked old refusal.NoMemory new = AddsEntry old asked answer.NoMemory new
WritesNothing asked old refusal.Spent new = AddsNothing old new
WritesNothing asked old why new = ⊥

-- ---- rows

-- a Fetch and an After find a row, or there is none
abbrev pub AsksRow : Event → Caller → Result (Option Row) CallNo → Caller → Type 0
AsksRow asked old (Ok (Some row)) new = AddsEntry old asked (answer.Found row) new
AsksRow asked old (Ok None) new = AddsEntry old asked answer.Absent new
AsksRow asked old (Err why) new = EndsShort asked old why new

abbrev pub AsksFetch : (path : List ℕ) → Caller → Result (Option Row) CallNo → Caller → Type 0
AsksFetch path = AsksRow (event.Fetch path)

abbrev pub AsksAfter : (above : List ℕ) → Caller → Result (Option Row) CallNo → Caller → Type 0
AsksAfter above = AsksRow (event.After above)

-- a Put writes a row
abbrev pub AsksPut : (path resource plain stored : List ℕ) → Caller → Result ℕ CallNo → Caller
    → Type 0
AsksPut path resource plain stored old (Ok revision) new =
    AddsEntry old (event.Put path resource plain stored) (answer.Written revision) new
AsksPut path resource plain stored old (Err why) new =
    WritesNothing (event.Put path resource plain stored) old why new

-- a Delete writes a row, where one lives at the path
abbrev pub AsksDelete : (path : List ℕ) → Caller → Result (Option ℕ) CallNo → Caller → Type 0
AsksDelete path old (Ok (Some revision)) new =
    AddsEntry old (event.Delete path) (answer.Written revision) new
AsksDelete path old (Ok None) new = AddsEntry old (event.Delete path) answer.Absent new
AsksDelete path old (Err why) new = WritesNothing (event.Delete path) old why new

-- a Replace writes a row, where the path's last one has the revision still
abbrev pub AsksReplace : (path : List ℕ) → (revision : ℕ) → (stored : List ℕ) → Caller
    → Result Replacing CallNo → Caller → Type 0
AsksReplace path revision stored old (Ok (replacing.Written number)) new =
    AddsEntry old (event.Replace path revision stored) (answer.Written number) new
AsksReplace path revision stored old (Ok (replacing.Changed last)) new =
    AddsEntry old (event.Replace path revision stored) (answer.Changed last) new
AsksReplace path revision stored old (Err why) new =
    WritesNothing (event.Replace path revision stored) old why new

-- ---- configurations

-- a Reload gives a replica, which is in, a configuration
abbrev pub AsksReload : (replica : ℕ) → (expect : Option ℕ) → Publication → Caller
    → Result Reloading CallNo → Caller → Type 0
AsksReload replica expect p old (Ok (reloading.Generation number)) new =
    AddsEntry old (event.Reload replica p expect) (answer.Reloaded number) new
AsksReload replica expect p old (Ok (reloading.Refused verdict)) new =
    AddsEntry old (event.Reload replica p expect) (answer.Refused verdict) new
AsksReload replica expect p old (Ok (reloading.Moved current)) new =
    AddsEntry old (event.Reload replica p expect) (answer.Moved current) new
AsksReload replica expect p old (Err refusal.Gone) new =
    AddsEntry old (event.Reload replica p expect) (answer.Gone replica) new
AsksReload replica expect p old (Err refusal.NoMemory) new =
    AddsEntry old (event.Reload replica p expect) answer.NoMemory new
AsksReload replica expect p old (Err refusal.Spent) new = AddsNothing old new
AsksReload replica expect p old (Err why) new = ⊥

-- a Join gives one to a replica that isn't in
abbrev pub AsksJoin : (replica : ℕ) → Publication → Caller → Result Joining CallNo → Caller
    → Type 0
AsksJoin replica p old (Ok (joining.Generation number)) new =
    AddsEntry old (event.Join replica p) (answer.Joined number) new
AsksJoin replica p old (Ok (joining.Refused verdict)) new =
    AddsEntry old (event.Join replica p) (answer.Refused verdict) new
AsksJoin replica p old (Ok (joining.Present number)) new =
    AddsEntry old (event.Join replica p) (answer.Present number) new
AsksJoin replica p old (Err why) new = EndsShort (event.Join replica p) old why new

-- a Leave takes a replica's current generation away, where it has one; it takes no memory
abbrev pub AsksLeave : (replica : ℕ) → Caller → Result (Option ℕ) CallNo → Caller → Type 0
AsksLeave replica old (Ok (Some number)) new =
    AddsEntry old (event.Leave replica) (answer.Departed number) new
AsksLeave replica old (Ok None) new = AddsEntry old (event.Leave replica) (answer.Gone replica) new
AsksLeave replica old (Err refusal.Spent) new = AddsNothing old new
AsksLeave replica old (Err why) new = ⊥
