-- What a hand keeps of a seat, that it is what the seat's own entries say, and what the seat
-- may ask by it.
use Rattle.std.specs.Prelude.{◌≡◌, ℕ, ◌+◌, ◌-◌, ◌<◌, ◌≤◌, ◌⊎◌, Bool, true, false, not, List, [], length, sum, slice_get, get_or, Option, None, Some, IsSome}
use Rattle.std.specs.List.{list_all}
use Rattle.std.specs.Option.{option_map}
use Rattle.kr_base.specs.Lines.{of_seat}
use Rattle.kr_base.specs.Rules.{IsPath, IsResource}
use Rattle.kr_store.specs.declared.rows.Row.{Row}
use Rattle.kr_provider.specs.Publication.{Publication, names_plugin}
use Rattle.kr_provider.specs.Sealing.{IsSealing}
use Rattle.kr_rollout.specs.declared.answer.Answer.{Answer}
use Rattle.kr_rollout.specs.declared.answer.Answer.TheVariants as answer
use Rattle.kr_rollout.specs.declared.event.Event.{Event}
use Rattle.kr_rollout.specs.declared.event.Event.TheVariants as event
use Rattle.kr_rollout.specs.declared.opening.Entry.{Entry}
use Rattle.kr_rollout.specs.declared.opening.Opening.{Opening}
use Rattle.kr_rollout.specs.Entries.{seat_of}
use Rattle.kr_rollout.specs.Callers.{IsResealing, holding, found_in, reloads_in}
use Rattle.kr_rollout.specs.Cores.{CoreState}
use Rattle.kr_opening.specs.Replicas.{IsFirstIn}
use Rattle.test_rollout.specs.declared.hand.Hand.{Hand}
use Rattle.test_rollout.specs.declared.hand.Kind.{Kind}
use Rattle.test_rollout.specs.declared.hand.Kind.TheVariants.{Forgets, Looks, Brings, Leaves}
use Rattle.test_rollout.specs.declared.hand.Gain.{Gain}
use Rattle.test_rollout.specs.declared.hand.Gain.TheVariants.{Held, Found, Released, Nothing}

-- ---- what a core is started with

-- the replica is out, or its configuration names no plugin
abbrev pub is_bare : Option Publication → Bool
is_bare None = true
is_bare (Some p) = not (names_plugin p.rows)

-- a core may be asked to start with them
abbrev pub AreTerms : List (Option Publication) → (reloads : List ℕ) → (room : ℕ) → Type 0
AreTerms replicas reloads room = IsFirstIn replicas × (length replicas ≤ 16)
    × (list_all is_bare replicas ≡ true) × (1 ≤ length reloads) × (length reloads ≤ 64)
    × (sum reloads ≤ room) × (room ≤ 4000000)

-- a core that has just been started with them
pub record IsNew (replicas : List (Option Publication)) (reloads : List ℕ) (c : CoreState)
    : Type 0 where
  pub history : c.history ≡ []
  pub replicas_are : c.opening.replicas ≡ replicas
  pub reloads_are : c.opening.reloads ≡ reloads

-- ---- what an event and its answer do to a hand

abbrev pub event_effect : Event → Kind
event_effect (event.Adopt replica) = Forgets
event_effect (event.Fetch path) = Looks
event_effect (event.After path) = Looks
event_effect (event.Put path resource plain stored) = Leaves
event_effect (event.Delete path) = Leaves
event_effect (event.Replace path revision stored) = Leaves
event_effect event.LetGo = Leaves
event_effect (event.Reload replica p expect) = Brings
event_effect (event.Join replica p) = Brings
event_effect (event.Leave replica) = Leaves

abbrev pub answer_gain : Answer → Gain
answer_gain (answer.Adopted number p) = Held p
answer_gain (answer.Found row) = Found row
answer_gain answer.Released = Released
answer_gain given = Nothing

abbrev pub held_after : Gain → Option Publication → Option Publication
held_after (Held p) now = Some p
held_after Released now = None
held_after gain now = now

-- what is found now
abbrev pub row_in : Gain → Option Row
row_in (Found row) = Some row
row_in gain = None

abbrev pub found_after : Kind → Gain → Option Row → Option Row
found_after Forgets gain now = None
found_after Looks gain now = row_in gain
found_after Brings gain now = now
found_after Leaves gain now = now

abbrev pub left_after : Kind → ℕ → ℕ
left_after Brings left = left - 1
left_after kind left = left

abbrev pub hand_after : Kind → Gain → Hand → Hand
hand_after kind gain hand = record {
  held = held_after gain hand.held;
  found = found_after kind gain hand.found;
  left = left_after kind hand.left;
  replicas = hand.replicas;
}

-- ---- what a hand says

-- it is what the seat's own entries say
pub record IsHand (o : Opening) (seat : ℕ) (own : List Entry) (hand : Hand) : Type 0 where
  pub held : option_map (λ x. x.1) (holding own) ≡ hand.held
  pub found : found_in own ≡ hand.found
  pub left : reloads_in own + hand.left ≡ get_or o.reloads seat 0
  pub replicas : hand.replicas ≡ length o.replicas

-- there is one for each seat
pub record AreHands (c : CoreState) (hands : List Hand) : Type 0 where
  pub many : length hands ≡ length c.opening.reloads
  pub each : (seat : ℕ) (hand : Hand) → slice_get hands seat ≡ Some hand
      → IsHand c.opening seat (of_seat seat_of seat c.history) hand

-- one that holds and found nothing yet
abbrev pub fresh : (replicas left : ℕ) → Hand
fresh replicas left = record { held = None; found = None; left = left; replicas = replicas }

-- ---- what a seat with this hand may ask

-- it may bring the replica this configuration
abbrev pub CanBring : Hand → (replica : ℕ) → Publication → Type 0
CanBring hand replica p = (replica < hand.replicas) × (0 < hand.left)
    × (names_plugin p.rows ≡ false)

abbrev pub Permits : Hand → Event → Type 0
Permits hand (event.Adopt replica) = (replica < hand.replicas) × (hand.held ≡ None)
Permits hand (event.Fetch path) = IsPath path × IsSome hand.held
Permits hand (event.After path) = ((path ≡ []) ⊎ IsPath path) × IsSome hand.held
Permits hand (event.Put path resource plain stored) = IsPath path × IsResource resource
    × (p : Publication) × (hand.held ≡ Some p) × IsSealing p resource path plain stored
Permits hand (event.Delete path) = IsPath path
Permits hand (event.Replace path revision stored) = (p : Publication) × (hand.held ≡ Some p)
    × (row : Row) × (hand.found ≡ Some row) × (row.path ≡ path) × (row.revision ≡ revision)
    × IsPath row.path × IsResealing p row row.path stored
Permits hand event.LetGo = IsSome hand.held
Permits hand (event.Reload replica p expect) = CanBring hand replica p
Permits hand (event.Join replica p) = CanBring hand replica p
Permits hand (event.Leave replica) = replica < hand.replicas
