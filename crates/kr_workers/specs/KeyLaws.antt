-- A law of the key pages of each worker of a fleet.
use Rattle.std.specs.Prelude.{◌≡◌, ℕ, ◌<◌, List, length, slice_index_or, None, Option}
use Rattle.kr_kms.specs.Calls.{Link}
use Rattle.kr_kms.specs.Exchanges.{Exchange}
use Rattle.kr_provider.specs.BenchKeys.{adoption_of}
use Rattle.kr_provider.specs.KeyPages.{free_pages}
use Rattle.kr_rollout.specs.declared.opening.Entry.{Entry}
use Rattle.kr_rollout.specs.declared.opening.Opening.{Opening}
use Rattle.kr_script.specs.declared.script.Part.{Part}
use Rattle.kr_workers.specs.declared.files.SettingsFile.{SettingsFile}
use Rattle.kr_workers.specs.declared.worker.Worker.{Worker}
use Rattle.kr_workers.specs.Histories.{IsOneHistory}
use Rattle.kr_workers.specs.LineMoments.{HoldsItsKeys, run_moments}

-- of each worker that adopted nothing yet, around the events of the lines with which it stands in
-- the one history
abbrev pub WorkersHoldTheirKeys : (T : Type 0) → {L D : Type 0} → (L → Link)
    → (L → Exchange → L → Type 0) → (D → Option (List ℕ)) → (D → ℕ) → Type 0
WorkersHoldTheirKeys T {L} {D} link step left count = (files : List SettingsFile)
    (history : List Entry) (o : Opening) (parts : List Part) (budgets : List ℕ)
    (old new : List (Worker T L D))
    (one : IsOneHistory link step left count files history o parts budgets old new)
    (i : ℕ) (part : Part) (worker : Worker T L D) (below : i < length parts) (size : ℕ)
    → (slice_index_or old i worker).bench.published ≡ None
    → (slice_index_or old i worker).bench.pages ≡ free_pages size
    → HoldsItsKeys size (adoption_of (slice_index_or old i worker).bench)
    (run_moments (one.each i part worker below).run)
    (adoption_of (slice_index_or new i worker).bench)
