-- What a call over a core may stand on: what is known of the configuration that its seat holds and
-- of the row that it found, that its entries name these, and how honesty, budgets and rows follow.
use Rattle.std.specs.Prelude.{◌≡◌, ℕ, ◌+◌, cond, List, [], ◌∷◌, ◌++◌, Some, ⊤}
use Rattle.kr_base.specs.Lines.{of_seat, Stands}
use Rattle.kr_store.specs.declared.rows.LogRow.{LogRow}
use Rattle.kr_store.specs.declared.rows.Row.{Row}
use Rattle.kr_store.specs.Rows.{IsRow}
use Rattle.kr_kms.specs.Opens.{Opens}
use Rattle.kr_provider.specs.Publication.{Publication}
use Rattle.kr_rollout.specs.declared.answer.Answer.{Answer}
use Rattle.kr_rollout.specs.declared.answer.Answer.TheVariants as answer
use Rattle.kr_rollout.specs.declared.event.Event.{Event}
use Rattle.kr_rollout.specs.declared.event.Event.TheVariants as event
use Rattle.kr_rollout.specs.declared.opening.Entry.{Entry}
use Rattle.kr_rollout.specs.declared.opening.Opening.{Opening}
use Rattle.kr_rollout.specs.Entries.{seat_of}
use Rattle.kr_rollout.specs.States.{State, IsLive}
use Rattle.kr_rollout.specs.Openings.{IsAdmitted}
use Rattle.kr_rollout.specs.Steps.{new_rows}
use Rattle.kr_rollout.specs.Histories.{state_of}
use Rattle.kr_rollout.specs.Callers.{holding, found_in, reloads_in, brings_settings, did_of, gave_of}
use Rattle.kr_history.specs.Acting.{Caller, IsCaller, AddsEntry}
use Rattle.kr_history.specs.Calls.{KeepsHonesty}
use Rattle.kr_history.specs.Honesty.{SeedsOpen, HonestBy, IsHonest, KeepsHonest}

-- ---- what is held

-- a configuration that is held keeps its rules and names no other plugins than the opening does
abbrev pub HeldIsAdmitted : Type 0
HeldIsAdmitted = (c : Caller) (number : ℕ) (p : Publication) → IsCaller c
    → holding c.mine ≡ Some (number, p) → IsAdmitted c.opening.names p

-- where what was seen is honest, its seeds open
abbrev pub HeldOpens : Type 0
HeldOpens = (opens : Opens) (c : Caller) (number : ℕ) (p : Publication) → IsCaller c
    → IsHonest opens c.opening c.seen → holding c.mine ≡ Some (number, p) → SeedsOpen opens p

-- the entry names the generation that its seat held and the configuration of that, which was live
-- in the state before it
pub record NamesHeld (before : State) (number : ℕ) (p : Publication) (e : Entry) : Type 0 where
  pub held : e.line.held ≡ Some number
  pub published : e.published ≡ Some p
  pub live : IsLive before p.rows

-- so does the entry of each event of a caller that holds something
abbrev pub HeldIsNamed : Type 0
HeldIsNamed = (old new : Caller) (asked : Event) (given : Answer) (number : ℕ) (p : Publication)
    → IsCaller old → (a : AddsEntry old asked given new) → holding old.mine ≡ Some (number, p)
    → NamesHeld (state_of old.opening (old.seen ++ a.others)) number p a.entry

-- ---- what was found

-- a row that was found keeps the rules of its parts
abbrev pub FoundKeepsRules : Type 0
FoundKeepsRules = (c : Caller) (row : Row) → IsCaller c → found_in c.mine ≡ Some row
    → IsRow c.opening.format row

-- so does one that is handed out
abbrev pub HandedOutKeepsRules : Type 0
HandedOutKeepsRules = (old new : Caller) (asked : Event) (row : Row) → IsCaller old
    → AddsEntry old asked (answer.Found row) new → IsRow old.opening.format row

-- the entry of a Replace names the row that was found, if that has the revision
abbrev pub FoundIsNamed : Type 0
FoundIsNamed = (old new : Caller) (path : List ℕ) (revision : ℕ) (stored : List ℕ)
    (given : Answer) (row : Row) → IsCaller old
    → (a : AddsEntry old (event.Replace path revision stored) given new)
    → found_in old.mine ≡ Some row → row.revision ≡ revision → a.entry.replaced ≡ Some row

-- ---- honesty

-- a caller that has kept what it saw honest keeps it so with one more event, if the event's entry
-- is honest where all before it is. That asks something only of a Replace that is answered
-- Written, a Reload that is answered Reloaded and a Join that is answered Joined
abbrev pub HonestyFollows : Type 0
HonestyFollows = (opens : Opens) (old new : Caller) (asked : Event) (given : Answer)
    (a : AddsEntry old asked given new)
    → (IsHonest opens old.opening (old.seen ++ a.others)
    → HonestBy (gave_of given) (did_of asked) opens a.entry)
    → KeepsHonest opens old.opening old.seat old.seen
    → KeepsHonest opens new.opening new.seat new.seen

-- what a seat kept honest as far as it saw stays so in each history in which its view stands
abbrev pub HonestyStands : Type 0
HonestyStands = (opens : Opens) (o : Opening) (history : List Entry) (seat : ℕ)
    (seen mine : List Entry) → Stands seat_of history seat seen mine
    → of_seat seat_of seat seen ≡ mine → KeepsHonest opens o seat seen
    → KeepsHonest opens o seat history

-- ---- one more event

-- what is known of each caller
abbrev pub CallerFollows : Type 0
CallerFollows = (old new : Caller) (asked : Event) (given : Answer) → IsCaller old
    → AddsEntry old asked given new → IsCaller new

-- an event that neither replaces a row nor brings a configuration
abbrev pub AsksNoHonesty : Event → Type 0
AsksNoHonesty (event.Replace path revision stored) = ⊥
AsksNoHonesty (event.Reload replica p expect) = ⊥
AsksNoHonesty (event.Join replica p) = ⊥
AsksNoHonesty asked = ⊤

-- it keeps honest what the caller saw
abbrev pub QuietKeepsHonesty : Type 0
QuietKeepsHonesty = (old new : Caller) (asked : Event) (given : Answer) → AsksNoHonesty asked
    → AddsEntry old asked given new → KeepsHonesty old new

-- an event that neither adopts nor lets go
abbrev pub AsksNoHold : Event → Type 0
AsksNoHold (event.Adopt replica) = ⊥
AsksNoHold event.LetGo = ⊥
AsksNoHold asked = ⊤

-- it leaves what the caller holds
abbrev pub HoldStays : Type 0
HoldStays = (old new : Caller) (asked : Event) (given : Answer) → AsksNoHold asked
    → AddsEntry old asked given new → holding new.mine ≡ holding old.mine

-- ---- budgets and rows

-- an event that brings a configuration takes one of the seat's budget
abbrev pub BudgetFollows : Type 0
BudgetFollows = (old new : Caller) (asked : Event) (given : Answer) → AddsEntry old asked given new
    → reloads_in new.mine ≡ reloads_in old.mine + cond (brings_settings (did_of asked)) 1 0

-- the rows that entries write, in their order
abbrev pub written_rows : List Entry → List LogRow
written_rows [] = []
written_rows (e ∷ history) = new_rows e.line.gave e.line.did e.row ++ written_rows history

-- the store has the opening's rows and then these
abbrev pub RowsAreWritten : Type 0
RowsAreWritten = (o : Opening) (history : List Entry)
    → (state_of o history).rows ≡ o.rows ++ written_rows history
