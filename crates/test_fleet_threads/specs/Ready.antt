-- Two callers that read, and the core that they begin at.
use Rattle.std.specs.Prelude.{◌≡◌, ℕ, ◌<◌, ◌≤◌, List, [], ◌∷◌, codes, length, Option, None, Some}
use Rattle.kr_fleet.specs.Fleets.{IsFleetSeat}
use Rattle.kr_history.specs.Calls.{AreServed}
use Rattle.kr_kms.specs.Calls.{Link}
use Rattle.kr_provider.specs.BenchState.{BenchState}
use Rattle.kr_provider.specs.KeyPages.{size_of}
use Rattle.kr_provider.specs.Names.{names_of}
use Rattle.kr_provider.specs.Publication.{Publication}
use Rattle.kr_rollout.specs.Callers.{holding}
use Rattle.kr_rollout.specs.Cores.{CoreState}
use Rattle.kr_rollout.specs.Openings.{NamesAmong}
use Rattle.kr_rollout.specs.declared.opening.Entry.{Entry}
use Rattle.kr_rollout.specs.declared.opening.Opening.{Opening}
use Rattle.kr_store.specs.Stores.{IsLiveCount}
use Rattle.kr_turn.specs.Keys.{Home}
use Rattle.kr_turn.specs.Seats.{IsFresh, mine}
use Rattle.kr_turn.specs.declared.seat.Place.{Place}

-- the names of the plugins that configurations may name
abbrev pub one_name : List (List ℕ)
one_name = codes "p" ∷ []

-- there is one replica, whose configuration names no other plugin
pub record IsNamed (replicas : List (Option Publication)) : Type 0 where
  pub published : Publication
  pub replicas_are : replicas ≡ Some published ∷ []
  pub named : NamesAmong one_name published.rows

-- a core with one replica and two seats that bring no configuration, whose journal has room for six
-- lines and none yet
pub record IsNewCore (core : CoreState) : Type 0 where
  pub names : core.opening.names ≡ one_name
  pub replicas_are : length core.opening.replicas ≡ 1
  pub reloads_are : core.opening.reloads ≡ 0 ∷ 0 ∷ []
  pub live : ℕ
  pub live_is : IsLiveCount core.opening.rows live
  pub history : core.history ≡ []
  pub room_is : core.room ≡ 6

module _ {L D : Type 0} (link : L → Link) where
  -- the bench has a link to the plugin alone, and pages enough
  pub record HasLink (bench : BenchState L D) : Type 0 where
    pub links : names_of link bench.links ≡ one_name
    pub pages : 64 ≤ size_of bench.pages

  -- the seat of a fleet may read at the first replica with the bench
  pub record MayRead {S : Type 0} (home : Home Opening) (bench : BenchState L D)
      (seat : Place S Entry Opening) : Type 0 where
    pub its : IsFleetSeat home seat
    pub replica : 0 < length home.terms.basis.replicas
    pub idle : holding (mine seat) ≡ None
    pub served : AreServed home.terms.basis.names (names_of link bench.links)
    pub pages : 64 ≤ size_of bench.pages

-- a seat of a fleet of one replica, which no one used yet
pub record IsNew {S : Type 0} (home : Home Opening) (seat : Place S Entry Opening) : Type 0 where
  pub its : IsFleetSeat home seat
  pub fresh : IsFresh home seat
  pub replicas_are : length home.terms.basis.replicas ≡ 1
  pub names : home.terms.basis.names ≡ one_name
