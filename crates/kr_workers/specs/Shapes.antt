-- Which entries a line's part of the history has, by the line and its reply: each of the line's
-- steps, in their order.
use Rattle.std.specs.Prelude.{◌≡◌, ◌⊎◌, ℕ, List, [], ◌∷◌, ◌++◌, All, Option, None, Some, ⊤}
use Rattle.kr_config.specs.Kept.{ConfigEntry as setting}
use Rattle.kr_kms.specs.declared.health.Field.{Field}
use Rattle.kr_provider.specs.Publication.{Publication}
use Rattle.kr_provider.specs.declared.refusal.ValueNo.{ValueNo}
use Rattle.kr_store.specs.declared.rows.Row.{Row}
use Rattle.kr_rollout.specs.declared.line.Did.{Did}
use Rattle.kr_rollout.specs.declared.line.Did.TheVariants as did
use Rattle.kr_rollout.specs.declared.line.Gave.{Gave}
use Rattle.kr_rollout.specs.declared.line.Gave.TheVariants as gave
use Rattle.kr_rollout.specs.declared.opening.Entry.{Entry}
use Rattle.kr_script.specs.declared.script.ScriptLine.{ScriptLine}
use Rattle.kr_script.specs.declared.script.ScriptLine.TheVariants as line
use Rattle.kr_script.specs.declared.told.Told.{Told}
use Rattle.kr_script.specs.declared.told.Told.TheVariants as told

-- ---- one entry

-- the entry did this and had this answer
pub record HasDone (e : Entry) (done : Did) (given : Gave) : Type 0 where
  pub did_is : e.line.did ≡ done
  pub gave_is : e.line.gave ≡ given

-- the entry alone, of a seat that holds nothing
pub record IsAlone (done : Did) (given : Gave) (part : List Entry) : Type 0 where
  pub entry : Entry
  pub part_is : part ≡ entry ∷ []
  pub is : HasDone entry done given
  pub held : entry.line.held ≡ None

-- ---- a generation is held meanwhile

-- An Adopt of a generation of the replica, entries that hold it, and a LetGo; this holds of the
-- configuration, of the generation's number and of the entries between
pub record HoldsPart (replica : ℕ) (part : List Entry)
    (Is : (p : Publication) → (number : ℕ) → (mids : List Entry) → Type 0) : Type 0 where
  pub number : ℕ
  pub p : Publication
  pub adopt : Entry
  pub mids : List Entry
  pub let_go : Entry
  pub part_is : part ≡ adopt ∷ (mids ++ let_go ∷ [])
  pub adopts : HasDone adopt (did.Adopt replica) (gave.Adopted number)
  pub adopted : adopt.published ≡ Some p
  pub hold : All (λ (e : Entry). (e.line.held ≡ Some number) × (e.published ≡ Some p)) mids
  pub lets_go : HasDone let_go did.LetGo gave.Released
  pub is : Is p number mids

-- one entry between, of which this holds
pub record IsOne (mids : List Entry) (done : Did) (given : Gave) (Is : Entry → Type 0)
    : Type 0 where
  pub entry : Entry
  pub mids_are : mids ≡ entry ∷ []
  pub does : HasDone entry done given
  pub is : Is entry

-- one step by the replica's generation
abbrev pub HoldsOne : (replica : ℕ) → (part : List Entry) → Did → Gave → Type 0
HoldsOne replica part done given =
    HoldsPart replica part (λ p number mids. IsOne mids done given (λ e. ⊤))

-- ---- a configuration is brought

-- these settings are published, and the event that brings them was answered so
pub record BringsRows (brings : Publication → Did) (rows : List setting) (given : Gave)
    (part : List Entry) : Type 0 where
  pub p : Publication
  pub rows_are : p.rows ≡ rows
  pub brought : IsAlone (brings p) given part

-- ---- the line's part

-- What is known of the outside while the line was done: a plugin failed, or the random source, so
-- the count of its faults rose; a plugin's status breaks a rule; no plugin tells another key than a
-- configuration has, or one does. What a configuration makes of its settings, of data and of a row.
-- And the second page: what a rewrite did that is told so. `home` is the worker's own replica.
-- Where memory lacked a line did nothing, or what it asked for came to nothing, or a row that it
-- found wasn't read; a generation that it adopted is let go all the same
module _ (PluginFailed : (name : List ℕ) → Type 0) (SourceFailed : Type 0)
    (BreaksRule : (name : List ℕ) → Field → (text : List ℕ) → Type 0)
    (KeysAreSame KeyChanged : Publication → Type 0)
    (NamesPlugin : List setting → (name : List ℕ) → Type 0)
    (CannotBeSealed : Publication → (resource plain : List ℕ) → ValueNo → Type 0)
    (ReadBy : (name : List ℕ) → Publication → Row → Type 0)
    (RewriteDone : Told → Type 0) (worker home : ℕ) (part : List Entry) where
  -- ---- each line

  abbrev pub PutPart : (resource path plain : List ℕ) → Told → Type 0
  PutPart resource path plain (told.Put revision) =
      HoldsOne home part (did.Put path resource plain) (gave.Written revision)
  PutPart resource path plain told.Full = (needed : ℕ)
      × HoldsOne home part (did.Put path resource plain) (gave.StoreFull needed)
  PutPart resource path plain told.FaultStore =
      HoldsOne home part (did.Put path resource plain) gave.StoreFailed
  PutPart resource path plain (told.Value why) = HoldsPart home part
      (λ p number mids. (mids ≡ []) × CannotBeSealed p resource plain why)
  PutPart resource path plain (told.FaultDice named) =
      (named ≡ worker) × SourceFailed × HoldsPart home part (λ p number mids. mids ≡ [])
  PutPart resource path plain told.Gone = IsAlone (did.Adopt home) (gave.Gone home) part
  PutPart resource path plain told.Memory = (part ≡ [])
      ⊎ IsAlone (did.Adopt home) gave.Nothing part
      ⊎ HoldsPart home part (λ p number mids. mids ≡ [])
      ⊎ HoldsOne home part (did.Put path resource plain) gave.Nothing
  PutPart resource path plain reply = ⊥

  abbrev pub GetPart : (path : List ℕ) → Told → Type 0
  GetPart path (told.Got revision plain) =
      HoldsOne home part (did.Fetch path) (gave.Found revision)
  GetPart path told.Absent = HoldsOne home part (did.Fetch path) gave.Absent
  GetPart path (told.Value why) = (revision : ℕ)
      × HoldsOne home part (did.Fetch path) (gave.Found revision)
  GetPart path (told.FaultPlugin name) = PluginFailed name × (revision : ℕ)
      × HoldsPart home part (λ p number mids. IsOne mids (did.Fetch path) (gave.Found revision)
      (λ e. (row : Row) × (e.row ≡ Some row) × ReadBy name p row))
  GetPart path told.Gone = IsAlone (did.Adopt home) (gave.Gone home) part
  GetPart path told.Memory = (part ≡ []) ⊎ IsAlone (did.Adopt home) gave.Nothing part
      ⊎ HoldsOne home part (did.Fetch path) gave.Nothing
      ⊎ ((revision : ℕ) × HoldsOne home part (did.Fetch path) (gave.Found revision))
  GetPart path reply = ⊥

  abbrev pub DeletePart : (path : List ℕ) → Told → Type 0
  DeletePart path (told.Deleted revision) =
      IsAlone (did.Delete path) (gave.Written revision) part
  DeletePart path told.Absent = IsAlone (did.Delete path) gave.Absent part
  DeletePart path told.Full =
      (needed : ℕ) × IsAlone (did.Delete path) (gave.StoreFull needed) part
  DeletePart path told.FaultStore = IsAlone (did.Delete path) gave.StoreFailed part
  DeletePart path told.Memory = (part ≡ []) ⊎ IsAlone (did.Delete path) gave.Nothing part
  DeletePart path reply = ⊥

  -- settings that weren't published bring nothing
  abbrev pub BringsPart : List setting → Told → Type 0
  BringsPart rows (told.FaultPlugin name) =
      PluginFailed name × NamesPlugin rows name × (part ≡ [])
  BringsPart rows (told.FaultDice named) = (named ≡ worker) × SourceFailed × (part ≡ [])
  BringsPart rows (told.Unhealthy name field text) =
      BreaksRule name field text × NamesPlugin rows name × (part ≡ [])
  BringsPart rows reply = ⊥

  abbrev pub ReloadPart : (replica : ℕ) → List setting → Told → Type 0
  ReloadPart replica rows (told.Reloaded number) =
      BringsRows (λ p. did.Reload replica p None) rows (gave.Reloaded number) part
  ReloadPart replica rows (told.Refused verdict) =
      BringsRows (λ p. did.Reload replica p None) rows (gave.Refused verdict) part
  ReloadPart replica rows told.Gone =
      BringsRows (λ p. did.Reload replica p None) rows (gave.Gone replica) part
  ReloadPart replica rows told.Memory =
      (part ≡ []) ⊎ BringsRows (λ p. did.Reload replica p None) rows gave.Nothing part
  ReloadPart replica rows reply = BringsPart rows reply

  abbrev pub JoinPart : (replica : ℕ) → List setting → Told → Type 0
  JoinPart replica rows (told.Joined number) =
      BringsRows (did.Join replica) rows (gave.Joined number) part
  JoinPart replica rows (told.Present number) =
      BringsRows (did.Join replica) rows (gave.Present number) part
  JoinPart replica rows (told.Refused verdict) =
      BringsRows (did.Join replica) rows (gave.Refused verdict) part
  JoinPart replica rows told.Memory =
      (part ≡ []) ⊎ BringsRows (did.Join replica) rows gave.Nothing part
  JoinPart replica rows reply = BringsPart rows reply

  -- a key has changed, and the adopted settings are brought anew in place of the adopted generation
  abbrev pub Renewed : Gave → Type 0
  Renewed given = HoldsPart home part (λ p number mids. KeyChanged p × (anew : Publication)
      × (anew.rows ≡ p.rows) × IsOne mids (did.Reload home anew (Some number)) given (λ e. ⊤))

  -- they aren't, for a plugin of theirs or for want of bytes
  abbrev pub RenewsNot : (Why : Publication → Type 0) → Type 0
  RenewsNot Why = HoldsPart home part (λ p number mids. (mids ≡ []) × Why p)

  abbrev pub RefreshPart : Told → Type 0
  RefreshPart (told.Refreshed number) = Renewed (gave.Reloaded number)
  RefreshPart (told.Moved number) = Renewed (gave.Moved number)
  RefreshPart told.Unchanged = RenewsNot KeysAreSame
  RefreshPart told.Gone =
      IsAlone (did.Adopt home) (gave.Gone home) part ⊎ Renewed (gave.Gone home)
  RefreshPart (told.FaultPlugin name) =
      PluginFailed name × RenewsNot (λ p. NamesPlugin p.rows name)
  RefreshPart (told.FaultDice named) =
      (named ≡ worker) × SourceFailed × HoldsPart home part (λ p number mids. mids ≡ [])
  RefreshPart (told.Unhealthy name field text) =
      BreaksRule name field text × RenewsNot (λ p. NamesPlugin p.rows name)
  RefreshPart told.Memory = (part ≡ []) ⊎ IsAlone (did.Adopt home) gave.Nothing part
      ⊎ HoldsPart home part (λ p number mids. (mids ≡ []) ⊎ ((anew : Publication)
      × (anew.rows ≡ p.rows)
      × IsOne mids (did.Reload home anew (Some number)) gave.Nothing (λ e. ⊤)))
  RefreshPart reply = ⊥

  -- a reload and a join bring settings of the file that was read
  abbrev pub PartIs : (settings_in : (file : List ℕ) → Option (List setting)) → ScriptLine → Told
      → Type 0
  PartIs settings_in (line.Put resource path plain) reply = PutPart resource path plain reply
  PartIs settings_in (line.Get path) reply = GetPart path reply
  PartIs settings_in (line.Delete path) reply = DeletePart path reply
  PartIs settings_in line.Rewrite reply = RewriteDone reply
  PartIs settings_in (line.Reload replica file) reply = (rows : List setting)
      × (settings_in file ≡ Some rows) × ReloadPart replica rows reply
  PartIs settings_in line.Refresh reply = RefreshPart reply
  PartIs settings_in (line.Join replica file) reply = (rows : List setting)
      × (settings_in file ≡ Some rows) × JoinPart replica rows reply
  PartIs settings_in (line.Leave replica) (told.Left number) =
      IsAlone (did.Leave replica) (gave.Departed number) part
  PartIs settings_in (line.Leave replica) told.Gone =
      IsAlone (did.Leave replica) (gave.Gone replica) part
  PartIs settings_in (line.Leave replica) reply = ⊥
