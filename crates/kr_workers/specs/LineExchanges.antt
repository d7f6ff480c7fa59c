-- By which exchanges with plugins, exactly, a worker's line is done.
use Rattle.std.specs.Prelude.{◌≡◌, ◌⊎◌, ℕ, List, [], Option, Result}
use Rattle.kr_config.specs.Kept.{ConfigEntry}
use Rattle.kr_kms.specs.Exchanges.{Exchange}
use Rattle.kr_history.specs.declared.call.CallNo.{CallNo}
use Rattle.kr_fleet.specs.CallExchanges.{IsJoinBy, IsReadBy, IsRefreshBy, IsReloadBy}
use Rattle.kr_fleet.specs.declared.outcome.Loaded.{Loaded}
use Rattle.kr_fleet.specs.declared.outcome.Read.{Read}
use Rattle.kr_rewrite.specs.DriveExchanges.{IsDriveBy}
use Rattle.kr_rewrite.specs.declared.outcome.Report.{Report}
use Rattle.kr_script.specs.declared.script.ScriptLine.{ScriptLine}
use Rattle.kr_script.specs.declared.script.ScriptLine.TheVariants as line
use Rattle.kr_workers.specs.declared.files.SettingsFile.{SettingsFile}
use Rattle.kr_workers.specs.Files.{rows_at}
use Rattle.kr_workers.specs.Replies.{Reply, told_of_drive, told_of_join, told_of_read, told_of_refresh, told_of_reload}
use Rattle.kr_workers.specs.ScriptLines.{LacksMemory, WasRead, Workplace, seat_at}

module _ {L D : Type 0} where
  -- the seeds that plugins unwrapped are kept as they were
  abbrev pub KeepsSeeds : (old new : Workplace L D) → Type 0
  KeepsSeeds old new = new.cache ≡ old.cache

  -- no plugin is asked
  abbrev pub AsksNone : (old new : Workplace L D) → List Exchange → Type 0
  AsksNone old new exchanges = (exchanges ≡ []) × KeepsSeeds old new

  -- such a call brings a file's settings, and is told so, unless memory lacked for one more owner
  -- of them
  abbrev pub BringsFileBy : {R : Type 0} → (told : ℕ → R → Reply)
      → (Calls : R → List Exchange → Type 0) → Workplace L D → Reply → Workplace L D
      → List Exchange → Type 0
  BringsFileBy {R} told Calls old reply new exchanges =
      (LacksMemory old reply new × (exchanges ≡ []))
      ⊎ ((result : R) × (reply ≡ told (seat_at old) result) × Calls result exchanges
      × KeepsSeeds old new)

module _ {L D : Type 0} (left : D → Option (List ℕ)) (count : D → ℕ) where
  -- by a reload, or by a join
  abbrev pub DoesReloadBy : (replica : ℕ) → List ConfigEntry → Workplace L D → Reply → Workplace L D
      → List Exchange → Type 0
  DoesReloadBy replica rows old reply new exchanges = BringsFileBy told_of_reload
      (λ result. IsReloadBy left count rows replica old.caller old.dice result new.caller new.dice)
      old reply new exchanges

  abbrev pub DoesJoinBy : (replica : ℕ) → List ConfigEntry → Workplace L D → Reply → Workplace L D
      → List Exchange → Type 0
  DoesJoinBy replica rows old reply new exchanges = BringsFileBy told_of_join
      (λ result. IsJoinBy left count rows replica old.caller old.dice result new.caller new.dice)
      old reply new exchanges

  -- a line of a worker at this replica
  abbrev pub DoesBy : List SettingsFile → (replica : ℕ) → ScriptLine → Workplace L D → Reply
      → Workplace L D → List Exchange → Type 0
  DoesBy files replica (line.Put resource path plain) old reply new exchanges =
      AsksNone old new exchanges
  DoesBy files replica (line.Get path) old reply new exchanges =
      (result : Result Read CallNo) × (reply ≡ told_of_read (seat_at old) result)
      × IsReadBy path replica old.caller old.cache result new.caller new.cache exchanges
  DoesBy files replica (line.Delete path) old reply new exchanges = AsksNone old new exchanges
  DoesBy files replica line.Rewrite old reply new exchanges =
      (result : Result Report (Report × CallNo)) × (reply ≡ told_of_drive (seat_at old) result)
      × IsDriveBy left count replica [] old.caller old.cache old.dice result new.caller new.cache
      new.dice exchanges
  DoesBy files replica (line.Reload named file) old reply new exchanges =
      WasRead (rows_at files file) (λ rows. DoesReloadBy named rows old reply new exchanges)
  DoesBy files replica line.Refresh old reply new exchanges =
      (result : Result Loaded CallNo) × (reply ≡ told_of_refresh (seat_at old) result)
      × IsRefreshBy left count replica old.caller old.dice result new.caller new.dice exchanges
      × KeepsSeeds old new
  DoesBy files replica (line.Join named file) old reply new exchanges =
      WasRead (rows_at files file) (λ rows. DoesJoinBy named rows old reply new exchanges)
  DoesBy files replica (line.Leave named) old reply new exchanges = AsksNone old new exchanges
