-- A reply is the result of its line's call, told.
use Rattle.std.specs.Prelude.{ℕ, Option, None, Some, Result, Ok, Err}
use Rattle.kr_base.specs.declared.errors.Spent.{Spent}
use Rattle.kr_history.specs.declared.call.CallNo.{CallNo}
use Rattle.kr_history.specs.declared.call.CallNo.TheVariants as refusal
use Rattle.kr_history.specs.declared.outcome.Joining.{Joining}
use Rattle.kr_history.specs.declared.outcome.Joining.TheVariants as joining
use Rattle.kr_fleet.specs.declared.outcome.Loaded.{Loaded}
use Rattle.kr_fleet.specs.declared.outcome.Loaded.TheVariants as loaded
use Rattle.kr_fleet.specs.declared.outcome.Read.{Read}
use Rattle.kr_fleet.specs.declared.outcome.Read.TheVariants as found
use Rattle.kr_rewrite.specs.declared.outcome.Report.{Report}
use Rattle.kr_script.specs.declared.told.Told.{Told}
use Rattle.kr_script.specs.declared.told.Told.TheVariants as told

-- what is told of a line, or that its seat may add no more lines to the journal
abbrev pub Reply : Type 0
Reply = Result Told Spent

module _ (seat : ℕ) where
  -- why a call was cut short: a fault names the plugin, the random source of this seat, or the
  -- store
  abbrev pub told_of_refusal : CallNo → Reply
  told_of_refusal (refusal.Value why) = Ok (told.Value why)
  told_of_refusal (refusal.PluginFailed name) = Ok (told.FaultPlugin name)
  told_of_refusal refusal.DiceFailed = Ok (told.FaultDice seat)
  told_of_refusal refusal.StoreFailed = Ok told.FaultStore
  told_of_refusal (refusal.StoreFull needed) = Ok told.Full
  told_of_refusal (refusal.Unhealthy name field text) = Ok (told.Unhealthy name field text)
  told_of_refusal refusal.Gone = Ok told.Gone
  told_of_refusal refusal.Spent = Err (record {})
  told_of_refusal refusal.NoMemory = Ok told.Memory

  abbrev pub told_of_write : Result ℕ CallNo → Reply
  told_of_write (Ok revision) = Ok (told.Put revision)
  told_of_write (Err why) = told_of_refusal why

  abbrev pub told_of_read : Result Read CallNo → Reply
  told_of_read (Ok found.Absent) = Ok told.Absent
  told_of_read (Ok (found.Value revision plain stale)) = Ok (told.Got revision plain)
  told_of_read (Err why) = told_of_refusal why

  abbrev pub told_of_delete : Result (Option ℕ) CallNo → Reply
  told_of_delete (Ok None) = Ok told.Absent
  told_of_delete (Ok (Some revision)) = Ok (told.Deleted revision)
  told_of_delete (Err why) = told_of_refusal why

  abbrev pub told_of_leave : Result (Option ℕ) CallNo → Reply
  told_of_leave (Ok None) = Ok told.Gone
  told_of_leave (Ok (Some generation)) = Ok (told.Left generation)
  told_of_leave (Err why) = told_of_refusal why

  abbrev pub told_of_join : Result Joining CallNo → Reply
  told_of_join (Ok (joining.Generation generation)) = Ok (told.Joined generation)
  told_of_join (Ok (joining.Refused verdict)) = Ok (told.Refused verdict)
  told_of_join (Ok (joining.Present generation)) = Ok (told.Present generation)
  told_of_join (Err why) = told_of_refusal why

  -- a reload never answers the last two
  abbrev pub told_of_reload : Result Loaded CallNo → Reply
  told_of_reload (Ok (loaded.Generation generation)) = Ok (told.Reloaded generation)
  told_of_reload (Ok (loaded.Refused verdict)) = Ok (told.Refused verdict)
  told_of_reload (Ok (loaded.Moved generation)) = Ok (told.Moved generation)
  told_of_reload (Ok (loaded.Unchanged generation)) = Ok told.Unchanged
  told_of_reload (Err why) = told_of_refusal why

  -- a refresh is never refused
  abbrev pub told_of_refresh : Result Loaded CallNo → Reply
  told_of_refresh (Ok (loaded.Generation generation)) = Ok (told.Refreshed generation)
  told_of_refresh (Ok (loaded.Refused verdict)) = Ok (told.Refused verdict)
  told_of_refresh (Ok (loaded.Moved generation)) = Ok (told.Moved generation)
  told_of_refresh (Ok (loaded.Unchanged generation)) = Ok told.Unchanged
  told_of_refresh (Err why) = told_of_refusal why

  -- a drive that came to the end tells what it counted, one that was cut short why
  abbrev pub told_of_drive : Result Report (Report × CallNo) → Reply
  told_of_drive (Ok report) =
      Ok (told.Rewritten report.rewritten report.fresh report.changed report.left)
  told_of_drive (Err cut) = told_of_refusal cut.1
