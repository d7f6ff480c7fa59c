-- The workers at a core that starts with what replicas published.
use Rattle.std.specs.Prelude.{◌≡◌, ℕ, Bool, List, length, Option, Result, Ok, Err, ⊤}
use Rattle.kr_kms.specs.Calls.{Link}
use Rattle.kr_kms.specs.Exchanges.{Exchange}
use Rattle.kr_kms.specs.Outside.{Outside}
use Rattle.kr_store.specs.Stores.{Kept}
use Rattle.kr_watch.specs.declared.item.Item.{Item}
use Rattle.kr_workers.specs.declared.worker.Worker.{Worker}
use Rattle.kr_cmd_steps.specs.Environment.{Environment}
use Rattle.kr_cmd_fleet.specs.Fleets.{Begun, Replicas, launching, starting}
use Rattle.kr_cmd_fleet.specs.StartExchanges.{AsksFirst, BeganWith, OpenBy, WereAsked, links_in}
use Rattle.kr_cmd_fleet.specs.declared.fleet_file.LoadedFleet.{LoadedFleet}
use Rattle.kr_cmd_fleet.specs.declared.outfit.Outfit.{Outfit}
use Rattle.kr_cmd_messages.specs.declared.refusal.Stop.{Stop}
use Rattle.kr_cmd_fleet.specs.inner.Crews.{outfits_of}
use Rattle.kr_cmd_fleet.specs.inner.Plans.{plan_of}
use Rattle.kr_cmd_steps.specs.inner.Lent.{with_lent_tape}
use Rattle.kr_cmd_fleet.specs.inner.Outfits.{AreLater, AreNamed, links_of, with_outfits}
use Rattle.kr_cmd_steps.specs.inner.ProgramNames.{names_in}
use Rattle.kr_cmd_fleet.specs.inner.Readings.{KnowsItems}
use Rattle.kr_cmd_steps.specs.inner.Phases.{Does}
use Rattle.kr_cmd_steps.specs.inner.Tapes.{stored_of}

-- what the workers of a fleet have
abbrev pub Outfits : Type 0 → Type 0 → Type 0
Outfits L D = List (Outfit L D)

module _ {L D : Type 0} (link : L → Link) (left : D → Option (List ℕ)) (count : D → ℕ) where
  -- these outfits and the store's tape stand as if they were at home
  abbrev pub with_crew : (name : List ℕ) → Kept → Outfits L D → Environment → Environment
  with_crew name store outfits a = with_outfits link left count 0 outfits
      (with_lent_tape name store.told store.count a)

  -- the replicas published while the outfits were as they were before, and where someone watches
  -- the live rows were read, by what the links of the first outfit answered: what the core's start
  -- does completes it
  pub record IsPublished (step : L → Exchange → L → Type 0) (watched : Bool) (plan : LoadedFleet)
      (budgets : List ℕ) (name : List ℕ) (store : Kept) (first a : Environment)
      (olds outfits : Outfits L D) (exchanges : List Exchange) (replicas : Replicas)
      (items : List Item) : Type 0 where
    pub are_named : AreNamed link (names_in plan.programs) olds
    pub seats : length olds ≡ length plan.script.workers.0
    pub later : AreLater link count olds outfits
    pub onward : (kept : Kept) (result : Result Begun Stop)
        → Does (starting (plan_of plan) (stored_of store) budgets replicas items)
        (with_crew name store outfits a) (with_crew name kept outfits a) result
        → Does (launching watched (plan_of plan) (stored_of store) budgets)
        first (with_crew name kept outfits a) result
    pub asks : AsksFirst step exchanges (links_of olds) (links_of outfits)
    pub opens : OpenBy exchanges replicas
    pub known : KnowsItems watched exchanges store.rows replicas items

-- ---- what is said of the workers

module _ {T L D : Type 0} (told : Option (List Exchange)) (exchanges : List Exchange) where
  -- they began with these outfits, when this was heard and answered, and left those
  abbrev pub TakesOutfits : (outfits back : Outfits L D) → (heard : Option (List Exchange))
      → (asked : List Exchange) → (workers ended : List (Worker T L D)) → Type 0
  TakesOutfits outfits back heard asked workers ended = (heard ≡ told) × (asked ≡ exchanges)
      × (outfits_of workers ≡ outfits) × (outfits_of ended ≡ back)

  -- they began with these links, and left those
  abbrev pub AsksOutfits : (begun back : List (List L)) → (heard : Option (List Exchange))
      → (asked : List Exchange) → (workers ended : List (Worker T L D)) → Type 0
  AsksOutfits begun back heard asked workers ended = (heard ≡ told) × (asked ≡ exchanges)
      × (links_in workers ≡ begun) × (links_in ended ≡ back)

  -- the links were lent, where the first seat's had answered just this, and come back
  abbrev pub BeginsLent : (step : L → Exchange → L → Type 0) → (lent took : ℕ → L → Type 0)
      → (begun back : List (List L)) → (heard : Option (List Exchange))
      → (asked : List Exchange) → (workers ended : List (Worker T L D)) → Type 0
  BeginsLent step lent took begun back heard asked workers ended = (heard ≡ told)
      × (asked ≡ exchanges) × BeganWith lent took step exchanges workers ended
      × (links_in workers ≡ begun) × (links_in ended ≡ back)

-- ---- what the start asked

-- the links of these outfits were asked just this, by which this was done
pub record StartsFrom {L D : Type 0} (step : L → Exchange → L → Type 0) (olds : Outfits L D)
    (Done : List Exchange → (begun : List (List L)) → Type 0) : Type 0 where
  pub exchanges : List Exchange
  pub news : List (List L)
  pub asks : AsksFirst step exchanges (links_of olds) news
  pub done : Done exchanges news

-- all links that were handed out were, and came back
pub record StartsLent {L : Type 0} (link : L → Link) (lent took : ℕ → L → Type 0)
    (step : L → Exchange → L → Type 0) (old new : Outside)
    (Done : List Exchange → (begun back : List (List L)) → Type 0) : Type 0 where
  pub exchanges : List Exchange
  pub asked : WereAsked link lent took step exchanges old new
  pub done : Done exchanges asked.begun asked.back

-- where it ended before the workers, nothing was asked since
abbrev pub StaysIdle : {A : Type 0} {L : Type 0} → Result A Stop → (begun back : List (List L))
    → Type 0
StaysIdle (Ok made) begun back = ⊤
StaysIdle (Err stop) begun back = back ≡ begun
