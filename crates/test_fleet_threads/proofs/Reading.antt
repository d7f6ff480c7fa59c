-- Seats that no one used yet, and what they may read with.
use Rattle.std.proofs.Common.{◌≡◌, ℕ, List, [], ◌∷◌, ◌++◌, length, All, Contains, Option, Some, sym, ap, subst, ◌∙◌, arith}
use Rattle.std.proofs.lemmas.List.Elements.{All-contains_itself, All-nil, All-pop}
use Rattle.std.specs.Prelude.{IfSome}
use Rattle.kr_fleet.specs.Fleets.{FleetSeat, IsFleetSeat}
use Rattle.kr_history.specs.Calls.{AreServed}
use Rattle.kr_kms.specs.Calls.{Link}
use Rattle.kr_provider.specs.BenchState.{BenchState}
use Rattle.kr_provider.specs.Names.{names_of}
use Rattle.kr_rollout.specs.Callers.{holding}
use Rattle.kr_rollout.specs.Cores.{CoreState}
use Rattle.kr_rollout.specs.declared.opening.Entry.{Entry}
use Rattle.kr_rollout.specs.declared.opening.Opening.{Opening}
use Rattle.kr_turn.specs.Keys.{Home}
use Rattle.kr_turn.specs.Seats.{AreFresh}
use Rattle.kr_turn.specs.declared.seat.Place.{Place}
use Rattle.test_fleet_threads.specs.Ready.{HasLink, IsNew, IsNewCore, MayRead, one_name}

served : (names linked : List (List ℕ)) → names ≡ one_name → linked ≡ one_name
    → AreServed names linked
served names linked n e = subst (λ l. All (λ name. Contains l name) names) (sym e)
    (subst (λ l. All (λ name. Contains one_name name) l) (sym n)
    (All-contains_itself one_name))

module _ {S : Type 0} where
  pub may_read : {L D : Type 0} (link : L → Link) (home : Home Opening) (bench : BenchState L D)
      (seat : Place S Entry Opening) → IsNew home seat → HasLink link bench
      → MayRead link home bench seat
  may_read link home bench seat new has = record {
    its = new.its;
    replica = omega (arith, new.replicas_are);
    idle = ap holding new.fresh.none_mine;
    served = served home.terms.basis.names (names_of link bench.links) new.names has.links;
    pages = has.pages;
  }

  -- what a caller of the fleet that is made for the seat is served by
  pub served_there : {L D : Type 0} (link : L → Link) (home : Home Opening)
      (bench : BenchState L D) (old : Option (Place S Entry Opening))
      (seat : Place S Entry Opening) (at : FleetSeat S) → Some seat ≡ old
      → IfSome old (MayRead link home bench) → at ≡ record { home = home; seat = seat }
      → AreServed at.home.terms.basis.names (names_of link bench.links)
  served_there link home bench old seat at is may made =
      let ready : MayRead link home bench seat =
      subst (λ o. IfSome o (MayRead link home bench)) (sym is) may in
      subst (λ (a : FleetSeat S). AreServed a.home.terms.basis.names (names_of link bench.links))
      (sym made) ready.served

  -- of a fleet of a new core
  pub are_new : (home : Home Opening) (core : CoreState) (count : ℕ)
      (seats : List (Place S Entry Opening)) → home.terms.basis ≡ core.opening
      → AreFresh home count seats → All (IsFleetSeat home) seats → IsNewCore core
      → All (IsNew home) seats
  are_new home core count seats same fresh its new k d lt = record {
    its = its k d lt;
    fresh = fresh.each k d lt;
    replicas_are = ap (λ (o : Opening). length o.replicas) same ∙ new.replicas_are;
    names = ap (λ (o : Opening). o.names) same ∙ new.names;
  }

  -- what is taken, and what is left
  pub last_new : (home : Home Opening) (seats rest : List (Place S Entry Opening))
      (seat : Place S Entry Opening) → seats ≡ rest ++ seat ∷ [] → All (IsNew home) seats
      → IsNew home seat
  last_new home seats rest seat e all = (All-pop (IsNew home) seats rest (Some seat) e all).1

  pub rest_new : (home : Home Opening) (seats rest : List (Place S Entry Opening))
      (seat : Place S Entry Opening) → seats ≡ rest ++ seat ∷ [] → All (IsNew home) seats
      → All (IsNew home) rest
  rest_new home seats rest seat e all = (All-pop (IsNew home) seats rest (Some seat) e all).0

  pub none_new : (home : Home Opening) (rest : List (Place S Entry Opening)) → rest ≡ []
      → All (IsNew home) rest
  none_new home rest e = subst (All (IsNew home)) (sym e) (All-nil (IsNew home))
