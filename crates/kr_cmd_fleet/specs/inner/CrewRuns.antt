-- What the workers of a crew did, as a fleet says it.
use Rattle.std.specs.Prelude.{◌≡◌, ◌≤◌, ℕ, List, [], map, Option, Result, Ok, Err}
use Rattle.kr_kms.specs.Calls.{Link}
use Rattle.kr_kms.specs.Exchanges.{Exchange}
use Rattle.kr_rollout.specs.Histories.{ends_torn, state_of}
use Rattle.kr_rollout.specs.declared.opening.Entry.{Entry}
use Rattle.kr_rollout.specs.declared.opening.Opening.{Opening}
use Rattle.kr_store.specs.Stores.{Holds, Kept}
use Rattle.kr_workers.specs.Histories.{IsOneHistory}
use Rattle.kr_workers.specs.declared.worker.Worker.{Worker}
use Rattle.kr_cmd_fleet.specs.declared.fleet.Record.{Record}
use Rattle.kr_cmd_fleet.specs.declared.fleet_file.LoadedFleet.{LoadedFleet}
use Rattle.kr_cmd_fleet.specs.declared.outfit.Outfit.{Outfit}
use Rattle.kr_cmd_fleet.specs.declared.watch_start.WatchStart.{WatchStart}
use Rattle.kr_cmd_messages.specs.declared.refusal.Stop.{Stop}
use Rattle.kr_cmd_messages.specs.declared.refusal.Stop.TheVariants.{NoMemory}
use Rattle.kr_cmd_fleet.specs.inner.Outfits.{AreLater}
use Rattle.kr_cmd_fleet.specs.inner.Crews.{outfits_of}

-- the store's file is one of the rows at the history's end, in the opening's format; no count fell,
-- and it is torn exactly where the history ends so
pub record KeepsStore (o : Opening) (history : List Entry) (store : Kept) : Type 0 where
  pub rows_are : store.rows ≡ (state_of o history).rows
  pub format : store.format ≡ o.format
  pub later : o.count ≤ store.count
  pub torn : store.torn ≡ ends_torn o history
  pub holds : Holds store

module _ {T L D : Type 0} (link : L → Link) (step : L → Exchange → L → Type 0)
    (left : D → Option (List ℕ))
    (count : D → ℕ) (plan : LoadedFleet) (budgets : List ℕ) (o : Opening)
    (start : WatchStart) (workers : List (Worker T L D)) where
  -- the workers did their lines in one history
  pub record WorkersRan (made : Record) (store : Kept) (outfits : List (Outfit L D))
      : Type 0 where
    pub history : List Entry
    pub ended : List (Worker T L D)
    pub one : IsOneHistory link step left count plan.files.0 history o plan.script.workers.0
        budgets workers ended
    pub start_is : made.start ≡ start
    pub lines_are : made.lines.0 ≡ map (λ (e : Entry). e.line) history
    pub replies_are : made.replies.0 ≡ map (λ (w : Worker T L D). w.told) ended
    pub outfits_are : outfits ≡ outfits_of ended
    pub later : AreLater link count (outfits_of workers) outfits
    pub kept : KeepsStore o history store
    pub counted : store.count ≡ (state_of o history).count

  -- none was started
  pub record NoneRan (stop : Stop) (store : Kept) (outfits : List (Outfit L D)) : Type 0 where
    pub stops : stop ≡ NoMemory
    pub outfits_are : outfits ≡ outfits_of workers
    pub kept : KeepsStore o [] store

  abbrev pub RunsCrew : Result Record Stop → Kept → List (Outfit L D) → Type 0
  RunsCrew (Ok made) store outfits = WorkersRan made store outfits
  RunsCrew (Err stop) store outfits = NoneRan stop store outfits
