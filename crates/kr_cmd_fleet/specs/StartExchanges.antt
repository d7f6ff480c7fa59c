-- What the links of a fleet's seats were asked up to its workers, where these links came from, and
-- that what the workers left came back. It is what the replicas publish, and where someone watches
-- what is read of the live rows: one list.
use Rattle.std.specs.Prelude.{◌≡◌, ℕ, suc, List, [], ◌∷◌, ◌++◌, All, IfSome, Option, map, ⊤}
use Rattle.std.specs.Option.{option_map}
use Rattle.kr_base.specs.Walks.{Walk}
use Rattle.kr_history.specs.Honesty.{SeedsOpen}
use Rattle.kr_kms.specs.Calls.{Link}
use Rattle.kr_kms.specs.Exchanges.{AgreeAll, Exchange}
use Rattle.kr_kms.specs.Opens.{Opens}
use Rattle.kr_kms.specs.Outside.{Outside}
use Rattle.kr_provider.specs.AskedLinks.{Among}
use Rattle.kr_provider.specs.Publication.{Publication}
use Rattle.kr_workers.specs.declared.worker.Worker as fleet_worker

abbrev pub Exchanges : Type 0
Exchanges = List Exchange

-- that holds of each link of these seats, from this one on
abbrev pub AreOfSeats : {L : Type 0} → (Has : ℕ → L → Type 0) → (seat : ℕ) → List (List L)
    → Type 0
AreOfSeats Has seat [] = ⊤
AreOfSeats Has seat (links ∷ others) = All (Has seat) links × AreOfSeats Has (suc seat) others

-- the links of the first of these seats answered just this, one behind another, each of it one call
-- on one of them, and became those; the links of the other seats were asked nothing
pub record AsksFirst {L : Type 0} (step : L → Exchange → L → Type 0) (exchanges : List Exchange)
    (olds news : List (List L)) : Type 0 where
  pub old : List L
  pub new : List L
  pub others : List (List L)
  pub olds_are : olds ≡ old ∷ others
  pub news_are : news ≡ new ∷ others
  pub walk : Walk (Among step) old exchanges new

-- ---- all links that were handed out

-- the keys of a seat's links, and those of the links of these seats, from this one on
abbrev pub keys_at : {L : Type 0} → (L → Link) → (seat : ℕ) → List L → List (ℕ × List ℕ)
keys_at link seat links = map (λ l. (seat, (link l).name)) links

abbrev pub keys_of : {L : Type 0} → (L → Link) → (seat : ℕ) → List (List L) → List (ℕ × List ℕ)
keys_of link seat [] = []
keys_of link seat (links ∷ others) = keys_at link seat links ++ keys_of link (suc seat) others

-- All links that were handed out meanwhile, by their seats and their plugins' names in order: as
-- they were lent, as they were when the first seat's had answered just this and the other seats'
-- nothing, and as they came back
pub record WereAsked {L : Type 0} (link : L → Link) (lent took : ℕ → L → Type 0)
    (step : L → Exchange → L → Type 0) (exchanges : List Exchange) (old new : Outside)
    : Type 0 where
  pub given : List (List L)
  pub begun : List (List L)
  pub back : List (List L)
  pub handed : new.links.handed
      ≡ option_map (λ keys. keys ++ keys_of link 0 given) old.links.handed
  pub lent_are : AreOfSeats lent 0 given
  pub asks : AsksFirst step exchanges given begun
  pub took_are : AreOfSeats took 0 back

-- the links of the workers, by seats
abbrev pub links_in : {T L D : Type 0} → List (fleet_worker.Worker T L D) → List (List L)
links_in {T} {L} {D} workers =
    map (λ (worker : fleet_worker.Worker T L D). worker.bench.links) workers

-- by all openings that agree with these exchanges each seed opens that the replicas published
abbrev pub OpenBy : List Exchange → List (Option Publication) → Type 0
OpenBy exchanges replicas = (opens : Opens) → AgreeAll opens exchanges
    → All (λ replica. IfSome replica (SeedsOpen opens)) replicas

-- before these workers began the first one's links had answered just this, by which each seed was
-- made that the replicas published
pub record WereMade {T L D : Type 0} (step : L → Exchange → L → Type 0)
    (replicas : List (Option Publication)) (workers : List (fleet_worker.Worker T L D))
    : Type 0 where
  pub exchanges : List Exchange
  pub given : List (List L)
  pub asks : AsksFirst step exchanges given (links_in workers)
  pub opens : OpenBy exchanges replicas

-- the links with which the workers began are those that were lent to their seats, where the first
-- seat's had answered just this; and those with which they ended came back
pub record BeganWith {T L D : Type 0} (lent took : ℕ → L → Type 0)
    (step : L → Exchange → L → Type 0) (exchanges : List Exchange)
    (workers ended : List (fleet_worker.Worker T L D)) : Type 0 where
  pub given : List (List L)
  pub lent_are : AreOfSeats lent 0 given
  pub asks : AsksFirst step exchanges given (links_in workers)
  pub took_are : AreOfSeats took 0 (links_in ended)
