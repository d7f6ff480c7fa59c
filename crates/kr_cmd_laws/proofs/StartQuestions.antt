-- What the steps of a fleet and of a watch ask plugins up to its workers.
use Rattle.std.proofs.Common.{◌≡◌, ℕ, zero, suc, ◌+◌, List, [], ◌∷◌, ◌++◌, length, Bool, true, false, Contains, Option, None, Some, Result, Ok, Err, arith, refl, subst}
use Rattle.std.specs.Prelude.{if◌then◌else◌}
use Rattle.kr_base.specs.Told.{Agrees}
use Rattle.kr_config.specs.Kept.{ConfigEntry}
use Rattle.kr_config.specs.Lists.{list_of}
use Rattle.kr_kms.specs.Cache.{CacheState}
use Rattle.kr_kms.specs.Exchanges.{Exchange}
use Rattle.kr_kms.specs.declared.world.Access.TheVariants.{ToMake}
use Rattle.kr_kms.specs.declared.world.WorldCall.TheVariants.{Tape}
use Rattle.kr_provider.specs.PluginOrder.{plugin_order}
use Rattle.kr_provider.specs.Publication.{Publication}
use Rattle.kr_store.specs.Stores.{IsListing}
use Rattle.kr_store.specs.declared.rows.LogRow.{LogRow}
use Rattle.kr_store.specs.declared.rows.Row.{Row}
use Rattle.kr_watch.specs.declared.item.Item.{Item}
use Rattle.kr_cmd_messages.specs.declared.fleet_words.FleetWords.{FleetWords}
use Rattle.kr_cmd_messages.specs.declared.refusal.Refusal.{Refusal}
use Rattle.kr_cmd_steps.proofs.Tapes.{own_name}
use Rattle.kr_cmd_steps.specs.Phases.{by_result, configuration, with_memory}
use Rattle.kr_cmd_steps.specs.Plugins.{borrow_links_of, make_seeds, settings_programs}
use Rattle.kr_cmd_steps.specs.Steps.{StepState, Steps, and_then, find, give, load, or_empty, refuse, with_asked, with_tape}
use Rattle.kr_cmd_steps.specs.StoreFiles.{IsStored, Stored}
use Rattle.kr_cmd_steps.specs.ValueSteps.{none_kept, value_read}
use Rattle.kr_cmd_steps.specs.declared.programs.Program.{Program}
use Rattle.kr_cmd_fleet.specs.FirstItems.{item_with, plain_read, reading_live, reading_rows, watching}
use Rattle.kr_cmd_fleet.specs.FleetFiles.{FleetPlan, NamedRows, all_files, all_rows, file_entries, file_programs, files_in, planning, unless_read}
use Rattle.kr_cmd_fleet.specs.Fleets.{Replicas, beginning, equipping, equipping_all, launching, over_store, publishes, publishing, rows_of_replica, starting, starting_with, steps_of_fleet}
use Rattle.kr_cmd_laws.specs.PluginLaws.{IsQuestion}
use Rattle.kr_cmd_laws.proofs.OnlyAsks.{OnlyAsks, only_then}
use Rattle.kr_cmd_laws.proofs.Questions.{results_only, seeds_only, value_only}

-- ---- the plan, for which files alone are loaded

abbrev Loads : {A : Type 0} → Steps A → Type 0
Loads (load name next) = (bytes : Option (List ℕ)) → Loads (next bytes)
Loads (find B Is next) = (b : B) → Loads (next b)
Loads (refuse why) = Unit {0}
Loads (give x) = Unit {0}
Loads next = ⊥

module _ {A B : Type 0} (others : A → Steps B) where
  loads_then : ((x : A) → Loads (others x)) → (first : Steps A) → Loads first
      → Loads (and_then first others)
  loads_then o (load name next) g = λ bytes. loads_then o (next bytes) (g bytes)
  loads_then o (find D Is next) g = λ d. loads_then o (next d) (g d)
  loads_then o (refuse why) g = tt
  loads_then o (give x) g = o x
  loads_then o next g = absurd g

  results_load : (r : Result A Refusal) → ((x : A) → Loads (others x))
      → Loads (and_then (by_result r) others)
  results_load (Ok x) o = o x
  results_load (Err why) o = tt

  -- what is behind them stands over the same tapes
  loaded_then : (P : Exchange → Type 0) (tapes : List ℕ → Option (Option (List ℕ)))
      → ((x : A) (l : StepState) → l.tapes ≡ tapes → OnlyAsks P (others x) l)
      → (first : Steps A) (left : StepState) → Loads first → left.tapes ≡ tapes
      → OnlyAsks P (and_then first others) left
  loaded_then P tapes o (load name next) left g same =
      λ bytes. loaded_then P tapes o (next bytes) _ (g bytes) same
  loaded_then P tapes o (find D Is next) left g same =
      λ d is. loaded_then P tapes o (next d) left (g d) same
  loaded_then P tapes o (refuse why) left g same = tt
  loaded_then P tapes o (give x) left g same = o x left same
  loaded_then P tapes o next left g same = absurd g

abbrev next_file : (read : List NamedRows) (name : List ℕ) (names : List (List ℕ))
    → List ConfigEntry → Steps (List NamedRows)
next_file read name names rows = with_memory (files_in (read ++ (name, rows) ∷ []) names)

file_loads : (name : List ℕ) (names : List (List ℕ)) (read : List NamedRows)
    (entries : Option (List ConfigEntry)) → ((all : List NamedRows) → Loads (files_in all names))
    → Loads (unless_read entries (files_in read names)
    (and_then (configuration name) (next_file read name names)))
file_loads name names read (Some rows) o = o read
file_loads name names read None o = λ bytes r. results_load (next_file read name names) r
    (λ rows. λ u. o (read ++ (name, rows) ∷ []))

files_load : (names : List (List ℕ)) (read : List NamedRows) → Loads (files_in read names)
files_load [] read = tt
files_load (name ∷ names) read =
    file_loads name names read (file_entries read name) (λ all. files_load names all)

planning_loads : (file : List ℕ) (options : List (List ℕ × List ℕ))
    → Loads (planning file options)
planning_loads file options = λ bytes r. results_load _ r (λ fleet. loads_then
    (λ files. and_then (file_programs options files) (λ programs.
    give (record { fleet = fleet; files = files; programs = programs })))
    (λ files. λ u. results_load
    (λ programs. give (record { fleet = fleet; files = files; programs = programs }))
    (settings_programs options (plugin_order (all_rows files))) (λ programs. tt))
    (files_in [] (all_files fleet)) (files_load (all_files fleet) []))

module _ (IsHeld : List ℕ → Type 0) where
  abbrev P : Exchange → Type 0
  P = IsQuestion IsHeld

  -- ---- the links

  links_only : {A : Type 0} (programs : List Program) (seat : ℕ) (next : Steps A)
      → ((l : StepState) → OnlyAsks P next l) → (left : StepState)
      → OnlyAsks P (borrow_links_of seat programs next) left
  links_only [] seat next o left = o left
  links_only (program ∷ programs) seat next o left = links_only programs seat next o _

  equipped_only : {A : Type 0} (programs : List Program) (seats seat : ℕ) (next : Steps A)
      → ((l : StepState) → OnlyAsks P next l) → (left : StepState)
      → OnlyAsks P (equipping programs seat seats next) left
  equipped_only programs zero seat next o left = o left
  equipped_only programs (suc more) seat next o left =
      links_only programs seat (equipping programs (seat + 1) more next)
      (λ l. equipped_only programs more (seat + 1) next o l) _

  -- ---- what the replicas publish

  published_by : (files : List NamedRows) (replicas : List (List ℕ × List ℕ)) (made : Replicas)
      (rows : Option (List ConfigEntry)) (left : StepState)
      → ((more : Replicas) (l : StepState) → OnlyAsks P (publishing files more replicas) l)
      → OnlyAsks P (publishes rows made (λ more. publishing files more replicas)) left
  published_by files replicas made None left o = o (made ++ None ∷ []) left
  published_by files replicas made (Some rows) left o = λ u v. only_then P
      (λ seeds.
      publishing files (made ++ Some (record { rows = rows; seeds = seeds }) ∷ []) replicas)
      (λ seeds l. o (made ++ Some (record { rows = rows; seeds = seeds }) ∷ []) l)
      (make_seeds (plugin_order rows)) left (seeds_only IsHeld (plugin_order rows) left)

  published_only : (files : List NamedRows) (replicas : List (List ℕ × List ℕ)) (made : Replicas)
      (left : StepState) → OnlyAsks P (publishing files made replicas) left
  published_only files [] made left = λ u v. tt
  published_only files (replica ∷ replicas) made left =
      published_by files replicas made (rows_of_replica files replica) left
      (λ more l. published_only files replicas more l)

  -- ---- the live rows, where someone watches

  -- whatever stands in a live row of these is held
  abbrev AreHeld : List LogRow → Type 0
  AreHeld rows = (listing : List Row) → IsListing rows listing → (row : Row)
      → Contains listing row → IsHeld row.stored

  rows_only : (p : Publication) (rows : List Row) (items : List Item) (kept : CacheState)
      (left : StepState) → ((row : Row) → Contains rows row → IsHeld row.stored)
      → OnlyAsks P (reading_rows p rows items kept) left
  rows_only p [] items kept left held = λ u v. tt
  rows_only p (row ∷ rows) items kept left held = only_then P
      (λ read. with_memory
      (reading_rows p rows (items ++ item_with row (plain_read read.0) ∷ []) read.1))
      (λ read l. λ u v. rows_only p rows (items ++ item_with row (plain_read read.0) ∷ []) read.1 l
      (λ other c. held other (suc c.0, omega (arith, c.1), c.2)))
      (value_read p.seeds (list_of p.rows row.resource) row.path row.stored kept) left
      (value_only IsHeld p.seeds (list_of p.rows row.resource) row.path row.stored kept left
      (held row (0, omega arith, refl)))

  live_only : (rows : List LogRow) (replicas : Replicas) (left : StepState) → AreHeld rows
      → OnlyAsks P (reading_live rows replicas) left
  live_only rows [] left held = tt
  live_only rows (None ∷ others) left held = tt
  live_only rows (Some p ∷ others) left held =
      λ listing is. rows_only p listing [] none_kept left (held listing is)

  watched_only : (watched : Bool) (rows : List LogRow) (replicas : Replicas) (left : StepState)
      → (watched ≡ true → AreHeld rows) → OnlyAsks P (watching watched rows replicas) left
  watched_only false rows replicas left held = tt
  watched_only true rows replicas left held = live_only rows replicas left (held refl)

  -- ---- up to the workers

  started_only : (plan : FleetPlan) (stored : Stored) (budgets : List ℕ) (made : Replicas)
      (items : List Item) (left : StepState)
      → OnlyAsks P (starting plan stored budgets made items) left
  started_only plan stored budgets made items left =
      λ r is. results_only P r _ left (λ done. λ u v. tt)

  module _ (watched : Bool) where
    launched_only : (plan : FleetPlan) (stored : Stored) (budgets : List ℕ) (left : StepState)
        → (watched ≡ true → AreHeld stored.rows)
        → OnlyAsks P (launching watched plan stored budgets) left
    launched_only plan stored budgets left held = only_then P
        (starting_with watched plan stored budgets)
        (λ made l. only_then P (starting plan stored budgets made)
        (λ items m. started_only plan stored budgets made items m)
        (watching watched stored.rows made) l (watched_only watched stored.rows made l held))
        (publishing plan.files [] plan.fleet.replicas) left
        (published_only plan.files plan.fleet.replicas [] left)

    begun_only : (plan : FleetPlan) (stored : Stored) (left : StepState)
        → (watched ≡ true → AreHeld stored.rows)
        → OnlyAsks P (beginning watched plan stored) left
    begun_only plan stored left held = λ r is.
        results_only P r (equipping_all watched plan stored) left
        (λ budgets. equipped_only plan.programs (length plan.fleet.workers) 0
        (launching watched plan stored budgets)
        (λ l. launched_only plan stored budgets l held) left)

    over_only : (store : List ℕ) (plan : FleetPlan) (left : StepState)
        → ((bytes : List ℕ) (stored : Stored) → Agrees (or_empty (left.tapes store)) (Some bytes)
        → IsStored bytes (Ok stored) → watched ≡ true → AreHeld stored.rows)
        → OnlyAsks P (over_store watched store plan) left
    over_only store plan left held = λ bytes told r is. by bytes
        (subst (λ q. Agrees (if q then or_empty (left.tapes store) else left.tapes store)
        (Some bytes)) (own_name store) told) r is
      where
        by : (bytes : List ℕ) → Agrees (or_empty (left.tapes store)) (Some bytes)
            → (r : Result Stored Refusal) → IsStored bytes r
            → OnlyAsks P (and_then (by_result r) (beginning watched plan))
            (with_tape true store (with_asked (Tape store ToMake) left))
        by bytes agrees (Ok stored) is = begun_only plan stored _ (held bytes stored agrees is)
        by bytes agrees (Err why) is = tt

    -- from what is left on, where each live row of the store is held if someone watches
    pub fleet_only : (words : FleetWords) (left : StepState)
        → ((bytes : List ℕ) (stored : Stored)
        → Agrees (or_empty (left.tapes words.store)) (Some bytes) → IsStored bytes (Ok stored)
        → watched ≡ true → AreHeld stored.rows)
        → OnlyAsks P (steps_of_fleet watched words) left
    fleet_only words left held = loaded_then (over_store watched words.store) P left.tapes
        (λ plan l same. over_only words.store plan l (λ bytes stored agrees. held bytes stored
        (subst (λ t. Agrees (or_empty (t words.store)) (Some bytes)) same agrees)))
        (planning words.file words.options) left (planning_loads words.file words.options) refl
