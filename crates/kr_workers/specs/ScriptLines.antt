-- What a worker's line does: its call's own relation, and the reply that tells the call's result.
use Rattle.std.specs.Prelude.{◌≡◌, ◌⊎◌, ◌<◌, ℕ, List, [], length, Option, Some, Result, Ok, ⊤}
use Rattle.kr_base.specs.Rules.{IsPath, IsResource}
use Rattle.kr_config.specs.Kept.{ConfigEntry, plugins_in}
use Rattle.kr_kms.specs.Cache.{CacheState}
use Rattle.kr_kms.specs.Calls.{Link}
use Rattle.kr_provider.specs.AskedLinks.{AskedOnly}
use Rattle.kr_history.specs.declared.call.CallNo.{CallNo}
use Rattle.kr_rollout.specs.declared.opening.Opening.{Opening}
use Rattle.kr_history.specs.Acting.{Caller}
use Rattle.kr_rollout.specs.Openings.{NamesAmong}
use Rattle.kr_fleet.specs.declared.outcome.Loaded.{Loaded}
use Rattle.kr_fleet.specs.declared.outcome.Read.{Read}
use Rattle.kr_fleet.specs.SingleCalls.{IsDelete, IsLeave}
use Rattle.kr_fleet.specs.LoadCalls.{IsJoin, IsRefresh, IsReload}
use Rattle.kr_fleet.specs.ReadCalls.{IsRead}
use Rattle.kr_fleet.specs.WriteCalls.{IsWrite}
use Rattle.kr_rewrite.specs.declared.outcome.Report.{Report}
use Rattle.kr_rewrite.specs.Drives.{IsDrive}
use Rattle.kr_script.specs.declared.script.ScriptLine.{ScriptLine}
use Rattle.kr_script.specs.declared.script.ScriptLine.TheVariants as line
use Rattle.kr_script.specs.declared.told.Told.TheVariants as told
use Rattle.kr_workers.specs.declared.files.SettingsFile.{SettingsFile}
use Rattle.kr_workers.specs.Files.{rows_at}
use Rattle.kr_workers.specs.Replies.{Reply, told_of_delete, told_of_drive, told_of_join, told_of_leave, told_of_read, told_of_refresh, told_of_reload, told_of_write}

-- ---- which lines may be done

-- the replica is there, and the settings of the file name the opening's plugins alone
abbrev pub MayBringFile : Opening → List SettingsFile → (replica : ℕ) → (file : List ℕ) → Type 0
MayBringFile o files replica file = (replica < length o.replicas)
    × (rows : List ConfigEntry) × (rows_at files file ≡ Some rows) × NamesAmong o.names rows

-- paths and resources are of their form, replicas are there, and files were read
abbrev pub MayDo : Opening → List SettingsFile → ScriptLine → Type 0
MayDo o files (line.Put resource path plain) = IsPath path × IsResource resource
MayDo o files (line.Get path) = IsPath path
MayDo o files (line.Delete path) = IsPath path
MayDo o files line.Rewrite = ⊤
MayDo o files (line.Reload replica file) = MayBringFile o files replica file
MayDo o files line.Refresh = ⊤
MayDo o files (line.Join replica file) = MayBringFile o files replica file
MayDo o files (line.Leave replica) = replica < length o.replicas

-- ---- what a line does

-- what a worker works with: its seat as a caller of the core, its links and its random source
pub record Workplace (L D : Type 0) : Type 0 where
  pub caller : Caller
  pub links : List L
  pub dice : D
  pub cache : CacheState

module _ {L D : Type 0} where
  -- the number of the seat
  abbrev pub seat_at : Workplace L D → ℕ
  seat_at place = place.caller.seat

  -- there was no memory, and nothing was done
  abbrev pub LacksMemory : Workplace L D → Reply → Workplace L D → Type 0
  LacksMemory old reply new = (reply ≡ Ok told.Memory) × (new ≡ old)

  -- such a call brings a file's settings, is told so, and asks their plugins alone, unless memory
  -- lacked for one more owner of them
  abbrev pub BringsFile : {R : Type 0} → (L → Link) → (told : ℕ → R → Reply) → (Calls : R → Type 0)
      → List ConfigEntry → Workplace L D → Reply → Workplace L D → Type 0
  BringsFile {R} link told Calls rows old reply new = LacksMemory old reply new
      ⊎ ((result : R) × (reply ≡ told (seat_at old) result) × Calls result
      × AskedOnly link (plugins_in rows) old.links new.links)

  -- links and random source aren't used
  abbrev pub UsesNeither : (old new : Workplace L D) → Type 0
  UsesNeither old new = (new.links ≡ old.links) × (new.dice ≡ old.dice)

-- the file was read, and its settings are brought so
abbrev pub WasRead : Option (List ConfigEntry) → (List ConfigEntry → Type 0) → Type 0
WasRead found Brings = (rows : List ConfigEntry) × (found ≡ Some rows) × Brings rows

module _ {L D : Type 0} (link : L → Link) (left : D → Option (List ℕ))
    (count : D → ℕ) where
  -- by a reload, or by a join
  abbrev pub DoesReload : (replica : ℕ) → List ConfigEntry → Workplace L D → Reply → Workplace L D
      → Type 0
  DoesReload replica rows old reply new = BringsFile link told_of_reload
      (λ result. IsReload link left count rows replica old.caller old.links old.dice result
      new.caller new.links new.dice) rows old reply new

  abbrev pub DoesJoin : (replica : ℕ) → List ConfigEntry → Workplace L D → Reply → Workplace L D
      → Type 0
  DoesJoin replica rows old reply new = BringsFile link told_of_join
      (λ result. IsJoin link left count rows replica old.caller old.links old.dice result
      new.caller new.links new.dice) rows old reply new

  -- a line of a worker at this replica: a line that isn't of a replica's own speaks of the worker's
  abbrev pub Does : List SettingsFile → (replica : ℕ) → ScriptLine → Workplace L D → Reply
      → Workplace L D → Type 0
  Does files replica (line.Put resource path plain) old reply new =
      (result : Result ℕ CallNo) × (reply ≡ told_of_write (seat_at old) result)
      × IsWrite left count resource path plain replica old.caller old.dice result new.caller
      new.dice × (new.links ≡ old.links)
  Does files replica (line.Get path) old reply new =
      (result : Result Read CallNo) × (reply ≡ told_of_read (seat_at old) result)
      × IsRead link path replica old.caller old.links result new.caller new.links
      × (new.dice ≡ old.dice)
  Does files replica (line.Delete path) old reply new =
      (result : Result (Option ℕ) CallNo) × (reply ≡ told_of_delete (seat_at old) result)
      × IsDelete path old.caller result new.caller × UsesNeither old new
  Does files replica line.Rewrite old reply new =
      (result : Result Report (Report × CallNo)) × (reply ≡ told_of_drive (seat_at old) result)
      × IsDrive link left count replica [] old.caller old.links old.dice result new.caller
      new.links new.dice
  Does files replica (line.Reload named file) old reply new =
      WasRead (rows_at files file) (λ rows. DoesReload named rows old reply new)
  Does files replica line.Refresh old reply new =
      (result : Result Loaded CallNo) × (reply ≡ told_of_refresh (seat_at old) result)
      × IsRefresh link left count replica old.caller old.links old.dice result new.caller
      new.links new.dice
  Does files replica (line.Join named file) old reply new =
      WasRead (rows_at files file) (λ rows. DoesJoin named rows old reply new)
  Does files replica (line.Leave named) old reply new =
      (result : Result (Option ℕ) CallNo) × (reply ≡ told_of_leave (seat_at old) result)
      × IsLeave named old.caller result new.caller × UsesNeither old new
