-- What no call for a fleet leaves once its workers were started: statuses that say too little, and
-- a store that hasn't what the journal left. Each of these would contradict `StartsWorkers`.
use Rattle.std.specs.Prelude.{◌≡◌, ◌≢◌, ℕ, false, List, length, fold, map, Option, None, Some}
use Rattle.std.specs.Io.KnownBytes.{Appends}
use Rattle.kr_base.specs.Faults.{Rose}
use Rattle.kr_kms.specs.Calls.{Link}
use Rattle.kr_kms.specs.Exchanges.{Exchange}
use Rattle.kr_rollout.specs.Histories.{ends_torn}
use Rattle.kr_rollout.specs.declared.opening.Entry.{Entry}
use Rattle.kr_script.specs.declared.told.Told.{Told}
use Rattle.kr_store.specs.File.{IsFile}
use Rattle.kr_store.specs.Rows.{live}
use Rattle.kr_store.specs.declared.rows.LogRow.{LogRow}
use Rattle.kr_store.specs.declared.rows.Row.{Row}
use Rattle.kr_workers.specs.Endings.{HasReplyOf, gravest_ending, status_of as status_of_replies}
use Rattle.kr_workers.specs.declared.ending.Ending.{Ending}
use Rattle.kr_workers.specs.declared.ending.Ending.TheVariants as ending
use Rattle.kr_workers.specs.declared.worker.Worker as fleet_worker
use Rattle.kr_headline.specs.Headline.{latest_revision}
use Rattle.kr_cmd_messages.specs.Receipts.{Receipt}
use Rattle.kr_cmd_messages.specs.declared.fleet_words.FleetWords.{FleetWords}
use Rattle.kr_cmd_steps.specs.Environment.{Environment}
use Rattle.kr_cmd_fleet.specs.Fleets.{opening_of, settled_behind, text_of}
use Rattle.kr_cmd_laws.specs.RunHeadlines.{StartsWorkers, revision_behind}

module _ (T : Type 0) {L D : Type 0} (link : L → Link)
    (step : L → Exchange → L → Type 0) (lent took : ℕ → L → Type 0)
    (left : D → Option (List ℕ)) (count : D → ℕ) (words : FleetWords) (old new : Environment)
    (output errors : Receipt) (status : ℕ) where
  module _ (s : StartsWorkers T link step lent took left count words old new output errors
      status) where
    -- the printed text, and the replies in it
    abbrev pub printed : List ℕ
    printed = text_of s.begun.plan.fleet s.history s.ended

    abbrev pub told : List (List Told × ℕ)
    told = map (λ (w : fleet_worker.Worker T L D). w.told) s.ended

    -- the rows that the file has afterwards
    abbrev pub rows : List LogRow
    rows = s.has.page.stored.rows

    pub record WrongRuns : Type 0 where
      -- status 0, though some reply isn't that its line was done
      pub done_undone : (kind : Ending) → kind ≢ ending.Done → HasReplyOf kind told
          → status ≡ 0 → ⊥
      -- another status than that of the replies, though neither the output nor the errors failed
      -- and no want of memory is told
      pub other_status : status ≢ status_of_replies (gravest_ending told) → status ≢ 5
          → (Rose output.old_faults output.new_faults → ⊥)
          → (Rose errors.old_faults errors.new_faults → ⊥) → ⊥
      -- a text that isn't whole, though the status tells neither a fault nor want of memory
      pub cut_short : (Appends output.old output.new printed → ⊥) → status ≢ 4 → status ≢ 5 → ⊥
      -- a row that lives though the journal deleted it last, or that is gone though it put it
      pub deleted_lives : (path : List ℕ)
          → revision_behind s.begun.stored.rows s.history path ≡ None
          → live rows path ≢ None → ⊥
      pub put_is_gone : (path : List ℕ) → revision_behind s.begun.stored.rows s.history path ≢ None
          → live rows path ≡ None → ⊥
      -- or has another revision than its write told
      pub other_revision : (path : List ℕ) (revision : ℕ) (row : Row)
          → revision_behind s.begun.stored.rows s.history path ≡ Some revision
          → live rows path ≡ Some row → row.revision ≢ revision → ⊥
      -- a row more than was written, or one less
      pub other_rows : length rows ≢ fold (λ (now : ℕ) (e : Entry). latest_revision e.line.gave now)
          (length s.begun.stored.rows) s.history → ⊥
      -- bytes that aren't the file of these rows, though the store's count didn't rise
      pub other_file : (bytes : List ℕ) → new.world.tapes.told words.store ≡ Some (Some bytes)
          → (IsFile s.begun.stored.format rows bytes → ⊥)
          → (Rose ((settled_behind words.store s.mid).world.tapes.faults words.store)
          (new.world.tapes.faults words.store) → ⊥) → ⊥
      -- or though a row was written since the last write that failed
      pub other_tail : (bytes : List ℕ) → new.world.tapes.told words.store ≡ Some (Some bytes)
          → (IsFile s.begun.stored.format rows bytes → ⊥)
          → ends_torn (opening_of words.store s.begun (settled_behind words.store s.mid)) s.history
          ≡ false → ⊥
      -- a store that is gone
      pub no_file : new.world.tapes.told words.store ≡ Some None → ⊥

  -- so it is with each call
  abbrev pub IsNeverWrong : Type 0
  IsNeverWrong = (s : StartsWorkers T link step lent took left count words old new output
      errors status) → WrongRuns s

abbrev pub EachRunIsWrong : (T : Type 0) → {L D : Type 0} → (L → Link)
    → (L → Exchange → L → Type 0) → (lent took : ℕ → L → Type 0) → (D → Option (List ℕ))
    → (D → ℕ) → Type 0
EachRunIsWrong T link step lent took left count = (words : FleetWords) (old new : Environment)
    (output errors : Receipt) (status : ℕ)
    → IsNeverWrong T link step lent took left count words old new output errors status
