-- How a fleet comes to its workers: what its replicas publish, and the core that starts.
use Rattle.std.specs.Prelude.{◌≡◌, ℕ, false, List, [], ◌∷◌, ◌++◌, Option, Some, Result, Ok, Err}
use Rattle.std.specs.Str.{bytes_eq}
use Rattle.kr_config.specs.Kept.{ConfigEntry}
use Rattle.kr_kms.specs.Calls.{Link}
use Rattle.kr_provider.specs.Names.{HasLinks}
use Rattle.kr_provider.specs.Publication.{Publication}
use Rattle.kr_rollout.specs.Cores.{CoreState}
use Rattle.kr_rollout.specs.Openings.{opening_by}
use Rattle.kr_store.specs.Stores.{Kept}
use Rattle.kr_watch.specs.declared.item.Item.{Item}
use Rattle.kr_cmd_steps.specs.Environment.{Environment}
use Rattle.kr_cmd_fleet.specs.FleetFiles.{NamedRows, no_file, file_entries}
use Rattle.kr_cmd_fleet.specs.Fleets.{Begun, Replicas, publishing}
use Rattle.kr_cmd_fleet.specs.declared.fleet_file.LoadedFleet.{LoadedFleet}
use Rattle.kr_cmd_messages.specs.declared.refusal.Stop.{Stop}
use Rattle.kr_cmd_fleet.specs.inner.Plans.{plan_of}
use Rattle.kr_cmd_steps.specs.inner.Lent.{with_lent_dice, with_lent_links}
use Rattle.kr_cmd_steps.specs.inner.ProgramNames.{names_in}
use Rattle.kr_cmd_steps.specs.inner.Phases.{Does}
use Rattle.kr_cmd_steps.specs.inner.Tapes.{stored_of}

-- ---- what the replicas publish

-- the file of a replica that is in was read, and there is a link to each plugin that it names
abbrev pub MayPublish : (names : List (List ℕ)) → List NamedRows → (file : List ℕ) → Type 0
MayPublish names files file = bytes_eq file no_file ≡ false
    → (rows : List ConfigEntry) × (file_entries files file ≡ Some rows) × HasLinks names rows

-- with these links and this random source of the first seat out
abbrev pub with_first : {L : Type 0} → (L → Link) → List L → Option (List ℕ) → ℕ → Environment
    → Environment
with_first link links left count a =
    with_lent_links link 0 links (with_lent_dice 0 left count a)

-- one replica was gone through: what the others do completes it; or it ended the command
abbrev pub PublishesNext : List NamedRows → (replica : List ℕ × List ℕ) → (old new : Environment)
    → Result (Option Publication) Stop → Type 0
PublishesNext files replica old new (Ok published) =
    (made : Replicas) (others : List (List ℕ × List ℕ)) (end : Environment)
    (result : Result Replicas Stop)
    → Does (publishing files (made ++ published ∷ []) others) new end result
    → Does (publishing files made (replica ∷ others)) old end result
PublishesNext files replica old new (Err stop) =
    (made : Replicas) (others : List (List ℕ × List ℕ))
    → Does (publishing files made (replica ∷ others)) old new (Err stop)

-- ---- the core

-- the core of a plan over a store, at its begin
abbrev pub first_core : LoadedFleet → (reloads : List ℕ) → (room : ℕ) → Kept → Replicas → CoreState
first_core plan reloads room store replicas = record {
  opening = opening_by store replicas (names_in plan.programs) reloads;
  history = [];
  room = room;
}

-- what the workers begin with
abbrev pub begun_with : LoadedFleet → (budgets : List ℕ) → Kept → Replicas → List Item → Begun
begun_with plan budgets store replicas items = record {
  plan = plan_of plan;
  stored = stored_of store;
  budgets = budgets;
  replicas = replicas;
  items = items;
}

-- it, where something started
abbrev pub begun_in : {C S : Type 0} → Begun → Result C (Stop × S) → Result Begun Stop
begun_in begun (Ok core) = Ok begun
begun_in begun (Err (stop, store)) = Err stop
