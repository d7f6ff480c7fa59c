-- The part of each line that was done has its shape.
use Rattle.std.proofs.Common.{◌≡◌, ℕ, List, [], Option, None, Result, Ok, inl, inr, ap, sym, subst}
use Rattle.kr_base.specs.Faults.{Rose}
use Rattle.kr_config.specs.Kept.{ConfigEntry as setting}
use Rattle.kr_kms.specs.Calls.{Link}
use Rattle.kr_kms.specs.Exchanges.{Exchange}
use Rattle.kr_provider.specs.AskedLinks.{FaultRose}
use Rattle.kr_rollout.specs.declared.opening.Entry.{Entry}
use Rattle.kr_rollout.specs.Callers.{holding}
use Rattle.kr_history.specs.Acting.{IsCaller}
use Rattle.kr_history.specs.Parts.{Adds}
use Rattle.kr_history.specs.declared.call.CallNo.{CallNo}
use Rattle.kr_rewrite.specs.Drives.{CoversLive}
use Rattle.kr_script.specs.declared.script.ScriptLine.{ScriptLine}
use Rattle.kr_script.specs.declared.script.ScriptLine.TheVariants as line
use Rattle.kr_script.specs.declared.told.Told.{Told}
use Rattle.kr_script.specs.declared.told.Told.TheVariants as told
use Rattle.kr_workers.specs.declared.files.SettingsFile.{SettingsFile}
use Rattle.kr_workers.specs.Files.{rows_at}
use Rattle.kr_workers.specs.LineParts.{HasShape, PartsHaveShape}
use Rattle.kr_workers.specs.Replies.{Reply, told_of_join, told_of_reload}
use Rattle.kr_workers.specs.ScriptLines.{BringsFile, Does, WasRead, Workplace}
use Rattle.kr_workers.specs.Configurations.{IsFresh, IsLeft, IsStale}
use Rattle.kr_workers.specs.RewriteParts.{RewritePart}
use Rattle.kr_workers.proofs.Shaping.{IfTold, JoinsPart, ReloadsPart, delete_part, join_part, leave_part, nothing_added, read_part, refresh_part, reload_part, write_part}
use Rattle.kr_workers.proofs.ShapingRewrites.{drive_part, linked}

module _ {L D : Type 0} (link : L → Link) (left : D → Option (List ℕ))
    (count : D → ℕ) (files : List SettingsFile) (own : ℕ) (old new : Workplace L D)
    (k : IsCaller old.caller) (idle : holding old.caller.mine ≡ None) (part : List Entry)
    (adds : Adds old.caller part new.caller) (reply : Told) where
  abbrev Shaped : ScriptLine → Told → Type 0
  Shaped asked told = HasShape link count files own old new part asked told

  abbrev RewriteDone : Told → Type 0
  RewriteDone = RewritePart IsFresh IsStale IsLeft (λ name. FaultRose link name old.links new.links)
      (Rose (count old.dice) (count new.dice)) (λ met. CoversLive [] met old.caller new.caller)
      old.caller.seat own part

  -- the reply is what the call's answer tells
  as_told : (Part : Told → Type 0) (other : Reply) → Ok reply ≡ other → IfTold Part other
      → Part reply
  as_told Part other is t = subst (IfTold Part) (sym is) t

  -- memory lacked
  unchanged : new ≡ old → part ≡ []
  unchanged same = nothing_added old.caller new.caller part adds
      (ap (λ (place : Workplace L D). place.caller) same)

  -- a file was read, and a call brings its settings
  brought_part : {T : Type 0} → (Part : List setting → Told → Type 0)
      (tells : ℕ → Result T CallNo → Reply) (Calls : List setting → Result T CallNo → Type 0)
      (found : Option (List setting)) → ((rows : List setting) → part ≡ [] → Part rows told.Memory)
      → ((rows : List setting) (result : Result T CallNo) → Calls rows result
      → IfTold (Part rows) (tells old.caller.seat result))
      → WasRead found (λ rows. BringsFile link tells (Calls rows) rows old (Ok reply) new)
      → WasRead found (λ rows. Part rows reply)
  brought_part Part tells Calls found lacks calls (rows, read, inl none) =
      (rows, read, as_told (Part rows) _ none.0 (lacks rows (unchanged none.1)))
  brought_part Part tells Calls found lacks calls (rows, read, inr d) =
      (rows, read, as_told (Part rows) _ d.1 (calls rows d.0 d.2))

  pub line_part : (asked : ScriptLine)
      → Does link left count files own asked old (Ok reply) new → Shaped asked reply
  line_part (line.Put resource path plain) d = as_told (Shaped (line.Put resource path plain)) _ d.1
      (write_part link left count own old.caller new.caller k idle old.links new.links
      old.dice new.dice RewriteDone part adds resource path plain d.0 d.2)
  line_part (line.Get path) d = as_told (Shaped (line.Get path)) _ d.1
      (read_part link left count own old.caller new.caller k idle old.links new.links
      old.dice new.dice RewriteDone part adds path d.0 d.2)
  line_part (line.Delete path) d = as_told (Shaped (line.Delete path)) _ d.1
      (delete_part link left count own old.caller new.caller k idle old.links new.links
      old.dice new.dice RewriteDone part adds path d.0 d.2)
  line_part line.Rewrite d = as_told (Shaped line.Rewrite) _ d.1
      (drive_part (linked link) left count own old.caller new.caller k idle old.links
      new.links tt old.dice new.dice part adds d.0 d.2)
  line_part (line.Reload named file) d = brought_part
      (ReloadsPart link left count own old.caller new.caller k idle old.links new.links old.dice
      new.dice RewriteDone part adds named) told_of_reload _ (rows_at files file) (λ rows e. inl e)
      (reload_part link left count own old.caller new.caller k idle old.links new.links old.dice
      new.dice RewriteDone part adds named) d
  line_part line.Refresh d = as_told (Shaped line.Refresh) _ d.1
      (refresh_part link left count own old.caller new.caller k idle old.links new.links
      old.dice new.dice RewriteDone part adds d.0 d.2)
  line_part (line.Join named file) d = brought_part
      (JoinsPart link left count own old.caller new.caller k idle old.links new.links old.dice
      new.dice RewriteDone part adds named) told_of_join _ (rows_at files file) (λ rows e. inl e)
      (join_part link left count own old.caller new.caller k idle old.links new.links old.dice
      new.dice RewriteDone part adds named) d
  line_part (line.Leave named) d = leave_part link left count own old.caller new.caller k
      idle old.links new.links old.dice new.dice RewriteDone part adds (rows_at files) named d.0 reply
      d.1 d.2

pub parts_have_shape : {L D : Type 0} → (link : L → Link) (step : L → Exchange → L → Type 0)
    (left : D → Option (List ℕ)) (count : D → ℕ) (files : List SettingsFile)
    → PartsHaveShape link step left count files
parts_have_shape link step left count files replica old new done d =
    line_part link left count files replica old new d.known d.idle done.part d.adds
    done.reply done.line d.does
