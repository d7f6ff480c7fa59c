-- What a seat knows by its own entries, what it may ask by that, and what the journal records of
-- it.
use Rattle.std.specs.Prelude.{◌≡◌, ℕ, ◌<◌, ◌+◌, ◌⊎◌, Bool, true, false, cond, List, [], ◌∷◌, length, get_or, Option, None, Some, IsSome, ⊤}
use Rattle.std.specs.Option.{option_map}
use Rattle.kr_base.specs.Rules.{IsPath, IsResource}
use Rattle.kr_store.specs.declared.rows.Row.{Row}
use Rattle.kr_provider.specs.Publication.{Publication, list_at}
use Rattle.kr_provider.specs.Reading.{HasSomeReading, data_of}
use Rattle.kr_provider.specs.Sealing.{IsSealing}
use Rattle.kr_rollout.specs.declared.answer.Answer.{Answer}
use Rattle.kr_rollout.specs.declared.answer.Answer.TheVariants as answer
use Rattle.kr_rollout.specs.declared.event.Event.{Event}
use Rattle.kr_rollout.specs.declared.event.Event.TheVariants as event
use Rattle.kr_opening.specs.declared.generation.Generation.{Generation}
use Rattle.kr_rollout.specs.declared.line.Did.{Did}
use Rattle.kr_rollout.specs.declared.line.Did.TheVariants.{Adopt, Fetch, After, Put, Delete, Replace, LetGo, Reload, Join, Leave}
use Rattle.kr_rollout.specs.declared.line.Gave.{Gave}
use Rattle.kr_rollout.specs.declared.line.Gave.TheVariants.{Adopted, Found, Absent, Written, Changed, Released, Reloaded, Joined, Refused, Moved, Present, Departed, Gone, StoreFailed, StoreFull, Nothing}
use Rattle.kr_rollout.specs.declared.opening.Entry.{Entry}
use Rattle.kr_rollout.specs.declared.opening.Opening.{Opening}
use Rattle.kr_rollout.specs.Entries.{published_at}
use Rattle.kr_rollout.specs.Openings.{NamesAmong}

-- ---- what a seat holds, by its own entries

-- a generation with its configuration
abbrev pub with_published : ℕ → Option Publication → Option (ℕ × Publication)
with_published number None = None
with_published number (Some p) = Some (number, p)

-- a number with the configuration of its generation
abbrev pub number_with : List Generation → Option ℕ → Option (ℕ × Publication)
number_with generations None = None
number_with generations (Some number) = with_published number
    (published_at generations (Some number))

abbrev pub holding_then : Gave → Option Publication → Option (ℕ × Publication)
    → Option (ℕ × Publication)
holding_then (Adopted number) published now = with_published number published
holding_then Released published now = None
holding_then gave published now = now

abbrev pub holding_from : Option (ℕ × Publication) → List Entry → Option (ℕ × Publication)
holding_from now [] = now
holding_from now (e ∷ own) = holding_from (holding_then e.line.gave e.published now) own

-- what was adopted last, unless it was let go
abbrev pub holding : List Entry → Option (ℕ × Publication)
holding own = holding_from None own

-- ---- what it found, by its own entries

abbrev pub found_by : Gave → Option Row → Option Row
found_by (Found revision) row = row
found_by gave row = None

abbrev pub found_then : Did → Gave → Option Row → Option Row → Option Row
found_then (Adopt replica) gave row now = None
found_then (Fetch path) gave row now = found_by gave row
found_then (After path) gave row now = found_by gave row
found_then did gave row now = now

abbrev pub found_from : Option Row → List Entry → Option Row
found_from now [] = now
found_from now (e ∷ own) = found_from (found_then e.line.did e.line.gave e.row now) own

-- the row that the latest Fetch or After found, since the latest Adopt
abbrev pub found_in : List Entry → Option Row
found_in own = found_from None own

-- ---- what it brought, by its own entries

-- a configuration comes with the event
abbrev pub brings_settings : Did → Bool
brings_settings (Reload replica p expect) = true
brings_settings (Join replica p) = true
brings_settings did = false

-- how many configurations came
abbrev pub reloads_in : List Entry → ℕ
reloads_in [] = 0
reloads_in (e ∷ own) = cond (brings_settings e.line.did) 1 0 + reloads_in own

-- ---- what it may ask

-- the value is a sealing of the data as which the row reads by the configuration, with some
-- unwrapped source
pub record IsResealing (p : Publication) (row : Row) (path stored : List ℕ) : Type 0 where
  pub plain : List ℕ
  pub reads : HasSomeReading (list_at p row.resource) path row.stored (data_of plain)
  pub sealing : IsSealing p row.resource path plain stored

-- the seat may bring one more configuration, which names no other plugins
abbrev pub MayBring : Opening → ℕ → List Entry → (replica : ℕ) → Publication → Type 0
MayBring o seat own replica p = (replica < length o.replicas) × NamesAmong o.names p.rows
    × (reloads_in own < get_or o.reloads seat 0)

abbrev pub Allows : Opening → ℕ → List Entry → Event → Type 0
Allows o seat own (event.Adopt replica) = (replica < length o.replicas) × (holding own ≡ None)
Allows o seat own (event.Fetch path) = IsPath path × IsSome (holding own)
Allows o seat own (event.After path) = ((path ≡ []) ⊎ IsPath path) × IsSome (holding own)
Allows o seat own (event.Put path resource plain stored) = IsPath path × IsResource resource
    × (held : ℕ × Publication) × (holding own ≡ Some held)
    × IsSealing held.1 resource path plain stored
Allows o seat own (event.Delete path) = IsPath path
Allows o seat own (event.Replace path revision stored) = IsPath path
    × (held : ℕ × Publication) × (holding own ≡ Some held)
    × (row : Row) × (found_in own ≡ Some row) × (row.path ≡ path) × (row.revision ≡ revision)
    × IsResealing held.1 row path stored
Allows o seat own event.LetGo = IsSome (holding own)
Allows o seat own (event.Reload replica p expect) = MayBring o seat own replica p
Allows o seat own (event.Join replica p) = MayBring o seat own replica p
Allows o seat own (event.Leave replica) = replica < length o.replicas

-- a seat with these entries may ask this: it stands on the opening and on its own entries alone
pub record MayAsk (o : Opening) (seat : ℕ) (own : List Entry) (event : Event) : Type 0 where
  pub seat_in : seat < length o.reloads
  pub allowed : Allows o seat own event

-- ---- what is recorded

abbrev pub did_of : Event → Did
did_of (event.Adopt replica) = Adopt replica
did_of (event.Fetch path) = Fetch path
did_of (event.After path) = After path
did_of (event.Put path resource plain stored) = Put path resource plain
did_of (event.Delete path) = Delete path
did_of (event.Replace path revision stored) = Replace path revision
did_of event.LetGo = LetGo
did_of (event.Reload replica p expect) = Reload replica p expect
did_of (event.Join replica p) = Join replica p
did_of (event.Leave replica) = Leave replica

abbrev pub gave_of : Answer → Gave
gave_of (answer.Adopted number p) = Adopted number
gave_of (answer.Gone replica) = Gone replica
gave_of (answer.Found row) = Found row.revision
gave_of answer.Absent = Absent
gave_of (answer.Written revision) = Written revision
gave_of (answer.Changed revision) = Changed revision
gave_of answer.StoreFailed = StoreFailed
gave_of (answer.StoreFull needed) = StoreFull needed
gave_of answer.Released = Released
gave_of (answer.Reloaded number) = Reloaded number
gave_of (answer.Joined number) = Joined number
gave_of (answer.Refused verdict) = Refused verdict
gave_of (answer.Moved number) = Moved number
gave_of (answer.Present number) = Present number
gave_of (answer.Departed number) = Departed number
gave_of answer.NoMemory = Nothing

-- what was handed out is what the entry names
abbrev pub ShowsEntry : Answer → Entry → Type 0
ShowsEntry (answer.Adopted number p) e = e.published ≡ Some p
ShowsEntry (answer.Gone replica) e = ⊤
ShowsEntry (answer.Found row) e = e.row ≡ Some row
ShowsEntry answer.Absent e = ⊤
ShowsEntry (answer.Written revision) e = ⊤
ShowsEntry (answer.Changed revision) e = ⊤
ShowsEntry answer.StoreFailed e = ⊤
ShowsEntry (answer.StoreFull needed) e = ⊤
ShowsEntry answer.Released e = ⊤
ShowsEntry (answer.Reloaded number) e = ⊤
ShowsEntry (answer.Joined number) e = ⊤
ShowsEntry (answer.Refused verdict) e = ⊤
ShowsEntry (answer.Moved number) e = ⊤
ShowsEntry (answer.Present number) e = ⊤
ShowsEntry (answer.Departed number) e = ⊤
ShowsEntry answer.NoMemory e = ⊤

-- the value that was handed in, where one was
abbrev pub stored_in : Event → Option (List ℕ)
stored_in (event.Put path resource plain stored) = Some stored
stored_in (event.Replace path revision stored) = Some stored
stored_in asked = None

-- a row that was written has it
abbrev pub StoresIt : Event → Answer → Entry → Type 0
StoresIt asked (answer.Written revision) e = option_map (λ row. row.stored) e.row ≡ stored_in asked
StoresIt asked given e = ⊤

-- the entry is that of this seat, this event and this answer
pub record Records (seat : ℕ) (event : Event) (answer : Answer) (e : Entry) : Type 0 where
  pub seat_is : e.line.seat ≡ seat
  pub did_is : e.line.did ≡ did_of event
  pub gave_is : e.line.gave ≡ gave_of answer
  pub shows : ShowsEntry answer e
  pub stores : StoresIt event answer e
