-- What is known of a new core, and of its first callers.
use Rattle.std.proofs.Common.{◌≡◌, ℕ, zero, suc, ◌<◌, false, List, [], ◌∷◌, length, get_or, Contains, Option, None, Some, refl, sym, ap, subst, ◌∙◌, arith, All}
use Rattle.std.specs.Prelude.{IfSome}
use Rattle.std.proofs.lemmas.List.Elements.{All-cons, All-contains, All-head, All-nil, All-tail}
use Rattle.kr_base.specs.Lines.{of_seat}
use Rattle.kr_turn.specs.Keys.{Home}
use Rattle.kr_turn.specs.Seats.{IsFresh, number_of}
use Rattle.kr_turn.specs.declared.seat.Place.{Place}
use Rattle.kr_provider.specs.Publication.{Publication}
use Rattle.kr_rollout.specs.declared.opening.Entry.{Entry}
use Rattle.kr_rollout.specs.declared.opening.Opening.{Opening}
use Rattle.kr_history.specs.Acting.{Caller, only_caller}
use Rattle.kr_rollout.specs.Callers.{holding, reloads_in}
use Rattle.kr_rollout.specs.Cores.{CoreState}
use Rattle.kr_rollout.specs.Entries.{seat_of}
use Rattle.kr_rollout.specs.Openings.{AreAmong, NamesAmong}
use Rattle.kr_fleet.specs.Fleets.{IsFleetSeat, caller_of}
use Rattle.test_fleet_calls.specs.declared.opening.Budget.{Budget}
use Rattle.test_fleet_calls.specs.Desks.{IsCallerOf, one_name}
use Rattle.test_fleet_calls.specs.Openings.{IsCore}

-- ---- a new core

pub two_among : (names : List (List ℕ)) (replicas : List (Option Publication)) (p : Publication)
    (second : Option Publication) → names ≡ one_name → replicas ≡ Some p ∷ (second ∷ [])
    → NamesAmong one_name p.rows → IfSome second (λ q. NamesAmong one_name q.rows)
    → AreAmong names replicas
two_among names replicas p second n r first next =
    let Named : Option Publication → Type 0 =
    λ replica. IfSome replica (λ q. NamesAmong one_name q.rows) in
    subst (λ ns. AreAmong ns replicas) (sym n) (subst (AreAmong one_name) (sym r)
    (All-cons Named (Some p) (second ∷ []) first (All-cons Named second [] next (All-nil Named))))

-- ---- an only caller

pub only_begin : (core : CoreState) (budget : Budget) (solo : Caller) → IsCore budget core
    → solo ≡ only_caller core → IsCallerOf solo 2 budget.reloads false
only_begin core budget solo c is =
    subst (λ (x : Caller). IsCallerOf x 2 budget.reloads false) (sym is) (record {
      names = c.names;
      replicas_are = c.replicas_are;
      room = omega (arith, ap reloads_in c.history, ap (λ r. get_or r 0 0) c.reloads_are);
      idle = λ e. ap holding c.history;
    })

pub no_other_lines : (core : CoreState) (budget : Budget) → IsCore budget core
    → of_seat seat_of 0 core.history ≡ core.history
no_other_lines core budget c =
    subst (λ (h : List Entry). of_seat seat_of 0 h ≡ h) (sym c.history) refl

pub some_seat : (core : CoreState) (budget : Budget) → IsCore budget core
    → 0 < length core.opening.reloads
some_seat core budget c =
    let two : length core.opening.reloads ≡ 2 = ap (λ (r : List ℕ). length r) c.reloads_are in
    omega (arith, two)

-- ---- two callers

same_budget : (reloads n : ℕ) → n < 2 → get_or (reloads ∷ (reloads ∷ [])) n 0 ≡ reloads
same_budget reloads zero l = refl
same_budget reloads (suc zero) l = refl
same_budget reloads (suc (suc n)) l = absurd (omega (arith, l))

module _ {S : Type 0} (home : Home Opening) where
  pub seat_begins : (core : CoreState) (budget : Budget) (seat : Place S Entry Opening)
      → IsCore budget core → home.terms.basis ≡ core.opening → IsFleetSeat home seat
      → IsFresh home seat → IsCallerOf (caller_of home seat) 2 budget.reloads false
  seat_begins core budget seat c is its fresh =
      let budgets : home.terms.basis.reloads ≡ budget.reloads ∷ (budget.reloads ∷ []) =
      ap (λ (o : Opening). o.reloads) is ∙ c.reloads_are in
      let low : number_of seat < 2 =
      subst (λ (r : List ℕ). number_of seat < length r) budgets its.caller.seat_in in
      record {
        names = ap (λ (o : Opening). o.names) is ∙ c.names;
        replicas_are = ap (λ (o : Opening). length o.replicas) is ∙ c.replicas_are;
        room = omega (
          arith,
          ap reloads_in fresh.none_mine,
          ap (λ r. get_or r (number_of seat) 0) budgets,
          same_budget budget.reloads (number_of seat) low,
        );
        idle = λ e. ap holding fresh.none_mine;
      }

  abbrev Begins : (budget : Budget) (seat : Place S Entry Opening) → Type 0
  Begins budget seat =
      IsFleetSeat home seat × IsCallerOf (caller_of home seat) 2 budget.reloads false

  pub all_begin : (core : CoreState) (budget : Budget) (seats : List (Place S Entry Opening))
      → IsCore budget core → home.terms.basis ≡ core.opening → All (IsFleetSeat home) seats
      → All (IsFresh home) seats → All (Begins budget) seats
  all_begin core budget [] c is its fresh = All-nil (Begins budget)
  all_begin core budget (seat ∷ seats) c is its fresh =
      let own = All-head (IsFleetSeat home) seat seats its in
      All-cons (Begins budget) seat seats
      (own, seat_begins core budget seat c is own (All-head (IsFresh home) seat seats fresh))
      (all_begin core budget seats c is (All-tail (IsFleetSeat home) seat seats its)
      (All-tail (IsFresh home) seat seats fresh))

module _ {S : Type 0} (home : Home Opening) (budget : Budget)
    (seats : List (Place S Entry Opening)) where
  pub two_begin : (result : Option (Home Opening × Place S Entry Opening × Place S Entry Opening))
      → All (λ seat. IsFleetSeat home seat
      × IsCallerOf (caller_of home seat) 2 budget.reloads false) seats
      → IfSome result (λ two. (two.0 ≡ home) × Contains seats two.1 × Contains seats two.2)
      → IfSome result (λ two. IsFleetSeat two.0 two.1
      × IsCallerOf (caller_of two.0 two.1) 2 budget.reloads false)
      × IfSome result (λ two. IsFleetSeat two.0 two.2
      × IsCallerOf (caller_of two.0 two.2) 2 budget.reloads false)
  two_begin None a i = (tt, tt)
  two_begin (Some two) a i =
      let Is : Place S Entry Opening → Type 0 = λ seat. IsFleetSeat home seat
      × IsCallerOf (caller_of home seat) 2 budget.reloads false in
      let At : Place S Entry Opening → Home Opening → Type 0 = λ seat h. IsFleetSeat h seat
      × IsCallerOf (caller_of h seat) 2 budget.reloads false in (
        subst (At two.1) (sym i.0) (All-contains Is seats two.1 a i.1),
        subst (At two.2) (sym i.0) (All-contains Is seats two.2 a i.2),
      )
