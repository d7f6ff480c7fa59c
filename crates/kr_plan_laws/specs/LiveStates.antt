-- States in the midst of a planned rollout, by what is live: each replica's current configuration,
-- and each that a call still holds.
use Rattle.std.specs.Prelude.{◌≡◌, ◌⊎◌, ℕ, ◌≤◌, List, [], ◌∷◌, length, Some, IsSome, ⊤}
use Rattle.kr_config.specs.declared.class.Class.{Class}
use Rattle.kr_config.specs.Kept.{ConfigEntry}
use Rattle.kr_config.specs.Lists.{class_list}
use Rattle.kr_plan.specs.Rollouts.{GivesEither}
use Rattle.kr_provider.specs.Publication.{Publication}
use Rattle.kr_rollout.specs.declared.line.Did.{Did}
use Rattle.kr_rollout.specs.declared.line.Did.TheVariants.{Reload, Join}
use Rattle.kr_rollout.specs.declared.line.Gave.{Gave}
use Rattle.kr_rollout.specs.declared.line.Gave.TheVariants.{Refused}
use Rattle.kr_rollout.specs.declared.opening.Entry.{Entry}
use Rattle.kr_rollout.specs.Entries.{published_at}
use Rattle.kr_rollout.specs.States.{State, current_of, IsLive, IsLiveNumber}
use Rattle.kr_rollout.specs.Steps.{after}

-- some replica is in
abbrev pub HasReplica : State → Type 0
HasReplica st = (replica : ℕ) × IsSome (current_of st replica)

-- each live configuration gives at every class the list of the one settings or of the other
abbrev pub LiveGive : (one other : List ConfigEntry) → State → Type 0
LiveGive one other st = (rows : List ConfigEntry) (class : Class) → IsLive st rows
    → GivesEither one other rows class

-- a round is under way: from the one settings to the other
pub record IsUnderWay (one other : List ConfigEntry) (st : State) : Type 0 where
  pub some_in : HasReplica st
  pub gives : LiveGive one other st

-- settings that give at every class the list of these
abbrev pub GiveAs : (other rows : List ConfigEntry) → Type 0
GiveAs other rows = (class : Class) → class_list rows class ≡ class_list other class

-- An event brings a replica no settings but such, or settings that are live already: a refresh, by
-- which a replica gets its own settings with other seeds, and a join by what another one has.
abbrev pub BringsOnly : (other : List ConfigEntry) → State → Did → Type 0
BringsOnly other st (Reload replica p expect) = GiveAs other p.rows ⊎ IsLive st p.rows
BringsOnly other st (Join replica p) = GiveAs other p.rows ⊎ IsLive st p.rows
BringsOnly other st did = ⊤

-- Entries of a round to these settings: whatever they do, they bring no others, and at each moment
-- some replica is in. Replicas take up the settings in any order, and join and leave.
abbrev pub AreOfRound : (other : List ConfigEntry) → State → List Entry → Type 0
AreOfRound other st [] = ⊤
AreOfRound other st (e ∷ round) = BringsOnly other st e.line.did × HasReplica (after st e)
    × AreOfRound other (after st e) round

-- the round is over: each live configuration gives what the round's settings do
abbrev pub IsOver : (other : List ConfigEntry) → State → Type 0
IsOver other st = LiveGive other other st

-- entries of a round in which no settings come but the round's own
abbrev pub BringsNew : (other : List ConfigEntry) → Did → Type 0
BringsNew other (Reload replica p expect) = GiveAs other p.rows
BringsNew other (Join replica p) = GiveAs other p.rows
BringsNew other did = ⊤

abbrev pub AllNew : (other : List ConfigEntry) → List Entry → Type 0
AllNew other [] = ⊤
AllNew other (e ∷ round) = BringsNew other e.line.did × AllNew other round

-- what is live has come since: each replica that is in has got its configuration since, and what a
-- call holds is no older
abbrev pub IsNewer : (begun now : State) → Type 0
IsNewer begun now = (number : ℕ) → IsLiveNumber now number → length begun.generations ≤ number

-- it isn't refused
abbrev pub IsNotRefused : Gave → Type 0
IsNotRefused (Refused verdict) = ⊥
IsNotRefused gave = ⊤

-- none of these is
abbrev pub NoneRefused : List Entry → Type 0
NoneRefused [] = ⊤
NoneRefused (e ∷ entries) = IsNotRefused e.line.gave × NoneRefused entries

-- a live generation has this configuration, with its seeds
abbrev pub IsLiveBy : State → Publication → Type 0
IsLiveBy st p = (number : ℕ) × IsLiveNumber st number
    × (published_at st.generations (Some number) ≡ Some p)
