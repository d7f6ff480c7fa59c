-- What an entry of a line may change: for which line, and with which reply. All else that a line
-- asks changes nothing but what its own seat holds.
use Rattle.std.specs.Prelude.{◌≡◌, ◌⊎◌, ℕ, List, Option, None, Some, ⊤}
use Rattle.kr_config.specs.Kept.{ConfigEntry as setting}
use Rattle.kr_provider.specs.Publication.{Publication}
use Rattle.kr_rollout.specs.declared.line.Did.{Did}
use Rattle.kr_rollout.specs.declared.line.Did.TheVariants as did
use Rattle.kr_rollout.specs.declared.line.Gave.{Gave}
use Rattle.kr_rollout.specs.declared.line.Gave.TheVariants as gave
use Rattle.kr_rollout.specs.declared.opening.Entry.{Entry}
use Rattle.kr_script.specs.declared.script.ScriptLine.{ScriptLine}
use Rattle.kr_script.specs.declared.script.ScriptLine.TheVariants as line
use Rattle.kr_script.specs.declared.told.Told.{Told}
use Rattle.kr_script.specs.declared.told.Told.TheVariants as told

-- the settings of the files that were read, by name; the replica of the worker; the line, and its
-- reply
module _ (settings_in : (file : List ℕ) → Option (List setting)) (own : ℕ) (asked : ScriptLine)
    (reply : Told) where
  -- a row is written for a `put` of these data, or a `delete` of this path, that tells its
  -- revision; or in another's place for a `rewrite`
  abbrev pub MayStore : (revision : ℕ) → Did → Type 0
  MayStore revision (did.Put path resource plain) =
      (asked ≡ line.Put resource path plain) × (reply ≡ told.Put revision)
  MayStore revision (did.Delete path) =
      (asked ≡ line.Delete path) × (reply ≡ told.Deleted revision)
  MayStore revision (did.Replace path from) = asked ≡ line.Rewrite
  MayStore revision done = ⊥

  -- a replica is given the settings of the file that its `reload` names, whatever generation it has
  pub record ReloadsFile (number replica : ℕ) (p : Publication) (expect : Option ℕ)
      : Type 0 where
    pub file : List ℕ
    pub asked_is : asked ≡ line.Reload replica file
    pub read : settings_in file ≡ Some p.rows
    pub expects : expect ≡ None
    pub tells : reply ≡ told.Reloaded number

  -- or, for a `refresh` of its own worker, those of the generation that the worker holds, in place
  -- of that
  pub record RenewsOwn (number replica : ℕ) (p : Publication) (expect held : Option ℕ)
      (published : Option Publication) : Type 0 where
    pub asked_is : asked ≡ line.Refresh
    pub replica_is : replica ≡ own
    pub expects : expect ≡ held
    pub old : Publication
    pub held_is : published ≡ Some old
    pub rows_are : p.rows ≡ old.rows
    pub tells : reply ≡ told.Refreshed number

  abbrev pub MayReload : (number : ℕ) → (held : Option ℕ) → Option Publication → Did → Type 0
  MayReload number held published (did.Reload replica p expect) =
      ReloadsFile number replica p expect ⊎ RenewsOwn number replica p expect held published
  MayReload number held published done = ⊥

  -- a replica comes in with the settings of the file that its `join` names
  pub record JoinsByFile (number replica : ℕ) (p : Publication) : Type 0 where
    pub file : List ℕ
    pub asked_is : asked ≡ line.Join replica file
    pub read : settings_in file ≡ Some p.rows
    pub tells : reply ≡ told.Joined number

  abbrev pub MayJoin : (number : ℕ) → Did → Type 0
  MayJoin number (did.Join replica p) = JoinsByFile number replica p
  MayJoin number done = ⊥

  -- it goes out for its `leave`
  abbrev pub MayLeave : (number : ℕ) → Did → Type 0
  MayLeave number (did.Leave replica) =
      (asked ≡ line.Leave replica) × (reply ≡ told.Left number)
  MayLeave number done = ⊥

  abbrev pub AllowsChange : Gave → Did → (held : Option ℕ) → Option Publication → Type 0
  AllowsChange (gave.Written revision) done held published = MayStore revision done
  AllowsChange (gave.Reloaded number) done held published = MayReload number held published done
  AllowsChange (gave.Joined number) done held published = MayJoin number done
  AllowsChange (gave.Departed number) done held published = MayLeave number done
  AllowsChange given done held published = ⊤

  -- so a reply that tells anything else tells that nothing was changed; but for a rewrite, which
  -- may have replaced rows before what it tells
  abbrev pub MayChange : Entry → Type 0
  MayChange e = AllowsChange e.line.gave e.line.did e.line.held e.published
