-- What the core keeps beside its journal, and how it serves an event.
use Rattle.std.specs.Prelude.{◌≡◌, ℕ, ◌<◌, ◌≤◌, ◌+◌, ◌⊎◌, Bool, List, [], length, get_or, take, map, Option, None, Some, IsSome}
use Rattle.std.specs.List.{slice_get}
use Rattle.std.specs.Option.{option_map}
use Rattle.kr_base.specs.Rules.{IsPath, IsResource}
use Rattle.kr_store.specs.declared.rows.Row.{Row}
use Rattle.kr_store.specs.Rows.{put_at}
use Rattle.kr_store.specs.Stores.{Kept}
use Rattle.kr_provider.specs.Publication.{Publication}
use Rattle.kr_provider.specs.Sealing.{IsSealing}
use Rattle.kr_judge.specs.Boards.{BoardState}
use Rattle.kr_rollout.specs.declared.answer.Answer.{Answer}
use Rattle.kr_rollout.specs.declared.event.Event.{Event}
use Rattle.kr_rollout.specs.declared.event.Event.TheVariants as event
use Rattle.kr_opening.specs.declared.generation.Generation.{Generation}
use Rattle.kr_rollout.specs.declared.line.Did.{Did}
use Rattle.kr_rollout.specs.declared.line.Gave.{Gave}
use Rattle.kr_rollout.specs.declared.line.Line.{Line}
use Rattle.kr_rollout.specs.declared.opening.Entry.{Entry}
use Rattle.kr_rollout.specs.declared.opening.Opening.{Opening}
use Rattle.kr_base.specs.Lines.{of_seat}
use Rattle.kr_rollout.specs.Entries.{entry_of, published_at, seat_of}
use Rattle.kr_rollout.specs.States.{State, number_at, held_by}
use Rattle.kr_rollout.specs.Openings.{board, opening_by, room_of, NamesAmong}
use Rattle.kr_rollout.specs.Steps.{IsStep, after, tears}
use Rattle.kr_rollout.specs.Histories.{IsLegal, ends_torn, state_of}
use Rattle.kr_rollout.specs.Callers.{IsResealing, Records, reloads_in}

-- what a rollout began with, its state, and whether a write has failed since the last one that was
-- done
pub record RolloutState : Type 0 where
  pub opening : Opening
  pub state : State
  pub torn : Bool

-- the opening's rows are the first ones of the store
abbrev pub opening_of : Kept → ℕ → List (Option Publication) → List (List ℕ) → List ℕ → ℕ → Bool
    → Opening
opening_of store first replicas names reloads count torn =
    record (opening_by store replicas names reloads) {
      rows = take first store.rows;
      count = count;
      torn = torn;
    }

abbrev pub state_with : Kept → BoardState → List Generation → (current held : List (Option ℕ))
    → State
state_with store board generations current held = record {
  generations = generations;
  current = current;
  held = held;
  needs = board.needs;
  rows = store.rows;
  count = store.count;
}

-- the numbers are those of generations
abbrev pub AreNumbers : List (Option ℕ) → List Generation → Type 0
AreNumbers numbers generations =
    (place number : ℕ) → number_at numbers place ≡ Some number → number < length generations

-- a replica's current generation is one that it took up
abbrev pub AreOwn : (current : List (Option ℕ)) → List Generation → Type 0
AreOwn current generations = (replica number : ℕ) → number_at current replica ≡ Some number
    → option_map (λ g. g.replica) (slice_get generations number) ≡ Some replica

-- what holds of it: the board is that of the state, and the numbers are those of generations
pub record IsRollout (o : Opening) (st : State) (kept : BoardState) : Type 0 where
  pub board_is : kept ≡ board o st
  pub current : AreNumbers st.current st.generations
  pub own : AreOwn st.current st.generations
  pub held : AreNumbers st.held st.generations
  pub replicas : length st.current ≡ length o.replicas
  pub seats : length st.held ≡ length o.reloads
  pub few : length o.reloads ≤ 64

-- the seat holds one of the generations
abbrev pub HoldsOne : (held : List (Option ℕ)) → List Generation → (seat : ℕ) → Type 0
HoldsOne held generations seat = (seat < length held)
    × (number : ℕ) × (number_at held seat ≡ Some number) × (number < length generations)

-- the replica may be given the settings: they name no other plugins, and there is room for one
-- more generation
abbrev pub MayTake : RolloutState → (replica : ℕ) → Publication → Type 0
MayTake c replica p = (replica < length c.opening.replicas) × NamesAmong c.opening.names p.rows
    × (length c.state.generations < room_of c.opening)

-- in this state the seat may ask this
abbrev pub MayServe : RolloutState → ℕ → Event → Type 0
MayServe c seat (event.Adopt replica) =
    (replica < length c.opening.replicas) × (held_by c.state seat ≡ None)
MayServe c seat (event.Fetch path) = IsPath path × IsSome (held_by c.state seat)
MayServe c seat (event.After path) = ((path ≡ []) ⊎ IsPath path) × IsSome (held_by c.state seat)
MayServe c seat (event.Put path resource plain stored) = IsPath path × IsResource resource
    × (number : ℕ) × (p : Publication) × (held_by c.state seat ≡ Some number)
    × (published_at c.state.generations (Some number) ≡ Some p)
    × IsSealing p resource path plain stored
MayServe c seat (event.Delete path) = IsPath path
MayServe c seat (event.Replace path revision stored) = IsPath path
    × (number : ℕ) × (p : Publication) × (row : Row) × (held_by c.state seat ≡ Some number)
    × (published_at c.state.generations (Some number) ≡ Some p)
    × (put_at c.state.rows revision ≡ Some row)
    × IsResealing p row path stored
MayServe c seat event.LetGo = IsSome (held_by c.state seat)
MayServe c seat (event.Reload replica p expect) = MayTake c replica p
MayServe c seat (event.Join replica p) = MayTake c replica p
MayServe c seat (event.Leave replica) = replica < length c.opening.replicas

-- the line of an event that is answered in this state
abbrev pub line_now : State → ℕ → Did → Gave → Line
line_now st seat did gave =
    record { seat = seat; did = did; held = held_by st seat; gave = gave; faults = st.count }

-- the line's entry is a step and records the event and its answer, and the state is the one after
-- it; a write has failed since the last one that was done where the answer or the time before says
-- so
pub record Serves (old : RolloutState) (seat : ℕ) (event : Event) (answer : Answer) (line : Line)
    (new : RolloutState) : Type 0 where
  pub opening : new.opening ≡ old.opening
  pub state : new.state ≡ after old.state (entry_of new.state.rows new.state.generations line)
  pub step : IsStep old.opening old.state (entry_of new.state.rows new.state.generations line)
  pub records : Records seat event answer (entry_of new.state.rows new.state.generations line)
  pub torn : new.torn ≡ tears line.gave old.torn

-- the entries of lines, as the state has what they name
abbrev pub entries_by : State → List Line → List Entry
entries_by st lines = map (entry_of st.rows st.generations) lines

-- no seat brought more configurations than it may
abbrev pub KeepsBudgets : Opening → List Entry → Type 0
KeepsBudgets o history =
    (seat : ℕ) → reloads_in (of_seat seat_of seat history) ≤ get_or o.reloads seat 0

-- what holds of a core: its lines are a legal history that leads to the state, within the seats'
-- budgets, by which it is known whether a write has failed since the last one that was done, and
-- there is room for more
pub record IsCore (o : Opening) (st : State) (torn : Bool) (lines : List Line) (spare room : ℕ)
    : Type 0 where
  pub legal : IsLegal o (entries_by st lines)
  pub leads : st ≡ state_of o (entries_by st lines)
  pub ends : torn ≡ ends_torn o (entries_by st lines)
  pub budgets : KeepsBudgets o (entries_by st lines)
  pub room_in : room ≤ length lines + spare
