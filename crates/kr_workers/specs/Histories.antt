-- What the workers of a fleet leave: one history, in which each line of each worker has its part.
use Rattle.std.specs.Prelude.{◌≡◌, ◌<◌, ◌≤◌, ℕ, List, [], length, slice_index, slice_index_or, All, Option}
use Rattle.kr_base.specs.Lines.{of_seat}
use Rattle.kr_base.specs.Walks.{Walk}
use Rattle.kr_kms.specs.Calls.{Link}
use Rattle.kr_kms.specs.Exchanges.{Exchange}
use Rattle.kr_provider.specs.AskedLinks.{AskedOnly}
use Rattle.kr_provider.specs.BenchKeys.{adoption_of}
use Rattle.kr_provider.specs.BenchState.{BenchState}
use Rattle.kr_provider.specs.Names.{names_of}
use Rattle.kr_rollout.specs.declared.opening.Entry.{Entry}
use Rattle.kr_rollout.specs.declared.opening.Opening.{Opening}
use Rattle.kr_rollout.specs.Entries.{seat_of}
use Rattle.kr_rollout.specs.Histories.{IsLegal}
use Rattle.kr_history.specs.KeyMoments.{Happens}
use Rattle.kr_script.specs.declared.script.Part.{Part}
use Rattle.kr_script.specs.declared.told.Told.{Told}
use Rattle.kr_workers.specs.declared.files.SettingsFile.{SettingsFile}
use Rattle.kr_workers.specs.declared.worker.Worker.{Worker}
use Rattle.kr_workers.specs.LineMoments.{run_moments}
use Rattle.kr_workers.specs.Runs.{DoesAll, LineDone, entries_in, lines_in, replies_in}
use Rattle.kr_workers.specs.ScriptLines.{Workplace}
use mathlib.Core.List.{IsPrefix}

module _ {L D : Type 0} where
  -- a worker that hasn't begun: it saw nothing, and may add so many lines
  abbrev pub first_place : Opening → (seat budget : ℕ) → BenchState L D → Workplace L D
  first_place o seat budget bench = record {
    caller = record { opening = o; seat = seat; seen = []; mine = []; left = budget };
    links = bench.links;
    dice = bench.dice;
    cache = bench.cache;
  }

module _ {L D : Type 0} (link : L → Link)
    (step : L → Exchange → L → Type 0) (left : D → Option (List ℕ)) (count : D → ℕ)
    (files : List SettingsFile) (history : List Entry) where
  -- a worker's lines were done, each once, in order and with one reply, and the history has their
  -- parts: what the worker saw at last begins the history, which has of its seat just these
  -- entries. Its links are those of before, asked or not
  pub record StandsIn (part : Part) (first : Workplace L D) (replies : List Told)
      (after : BenchState L D) : Type 0 where
    pub run : List LineDone
    pub lines_are : lines_in run ≡ part.lines.0
    pub replies_are : replies ≡ replies_in run
    pub last : Workplace L D
    pub does : DoesAll link step left count files part.replica first run last
    pub links_are : after.links ≡ last.links
    pub dice_are : after.dice ≡ last.dice
    pub cache_is : after.cache ≡ last.cache
    pub front : IsPrefix last.caller.seen history
    pub parts_are : entries_in run ≡ of_seat seat_of first.caller.seat history
    pub asked_only : AskedOnly link (names_of link first.links) first.links last.links
    pub later : count first.dice ≤ count last.dice

  -- the worker of each number, at its part of the fleet file
  abbrev pub AllStandIn : {T : Type 0} → Opening → List Part → (budgets : List ℕ)
      → (old new : List (Worker T L D)) → Type 0
  AllStandIn {T} o parts budgets old new = (i : ℕ) (part : Part) (worker : Worker T L D)
      → i < length parts
      → StandsIn (slice_index_or parts i part)
      (first_place o i (slice_index budgets i) (slice_index_or old i worker).bench)
      (slice_index_or new i worker).told.0 (slice_index_or new i worker).bench

  -- what happened to the keys of each worker's bench around the entries of its lines led from what
  -- it had to what it has
  abbrev pub AllMoveKeys : {T : Type 0} → (o : Opening) → (parts : List Part)
      → (budgets : List ℕ) → (old new : List (Worker T L D))
      → AllStandIn o parts budgets old new → Type 0
  AllMoveKeys {T} o parts budgets old new each = (i : ℕ) (part : Part) (worker : Worker T L D)
      (below : i < length parts)
      → Walk Happens (adoption_of (slice_index_or old i worker).bench)
      (run_moments (each i part worker below).run)
      (adoption_of (slice_index_or new i worker).bench)

  -- one history: legal from the opening, with the lines of each worker, and with nothing else
  pub record IsOneHistory {T : Type 0} (o : Opening) (parts : List Part) (budgets : List ℕ)
      (old new : List (Worker T L D)) : Type 0 where
    pub legal : IsLegal o history
    pub many : length new ≡ length old
    pub whole : length old ≡ length parts
    pub each : AllStandIn o parts budgets old new
    pub keys : AllMoveKeys o parts budgets old new each
    pub no_other : All (λ e. seat_of e < length parts) history
