-- What a call leaves of the tapes, where they are told, by its status.
use Rattle.std.specs.Prelude.{◌≡◌, ◌≢◌, ℕ, ◌⊎◌, ⊤, false, List, [], ◌∷◌, ◌++◌, map, Option, Some, Ok}
use Rattle.std.specs.Option.{option_map}
use Rattle.kr_base.specs.Faults.{Rose}
use Rattle.kr_base.specs.Told.{Agrees}
use Rattle.kr_config.specs.Kept.{ConfigEntry}
use Rattle.kr_kms.specs.Outside.{Outside, same_name, with_call}
use Rattle.kr_kms.specs.declared.world.WorldCall.{WorldCall}
use Rattle.kr_kms.specs.declared.world.WorldCall.TheVariants.{Settled}
use Rattle.kr_store.specs.Rows.{put_of}
use Rattle.kr_store.specs.declared.format.Check as kept
use Rattle.kr_store.specs.declared.format.Format.TheVariants.{Two}
use Rattle.kr_store.specs.declared.rows.LogRow.{LogRow}
use Rattle.kr_store.specs.declared.rows.Row as stored
use Rattle.kr_store.specs.Stores.{IsListing}
use Rattle.kr_cmd_steps.specs.Environment.{Environment}
use Rattle.kr_cmd_messages.specs.Command.{Asks}
use Rattle.kr_cmd_messages.specs.Receipts.{Receipt}
use Rattle.kr_cmd_steps.specs.StoreSteps.{migrated_row}
use Rattle.kr_cmd_steps.specs.Configuration.{IsConfiguration}
use Rattle.kr_cmd_steps.specs.Ran.{WroteNothing}
use Rattle.kr_cmd_steps.specs.Steps.{or_empty}
use Rattle.kr_cmd_steps.specs.StoreFiles.{Stored, IsStored, with_row, HoldsRows, BeginsWith}
use Rattle.kr_cmd_messages.specs.declared.command.Command.{Command}
use Rattle.kr_cmd_messages.specs.declared.command.Command.TheVariants.{Put, Migrate, Rewrite}
use Rattle.kr_cmd_messages.specs.declared.command.Conversion.{Conversion}
use Rattle.kr_cmd_messages.specs.declared.command.Migration.{Migration}

-- what is told of a tape: whether it is there, and its bytes
abbrev pub ToldTape : Type 0
ToldTape = Option (Option (List ℕ))

-- no row: the tape is as it was or, made where it was absent, empty
abbrev pub IsUngrown : (was is : ToldTape) → Type 0
IsUngrown was is = (is ≡ was) ⊎ (is ≡ or_empty was)

-- a tape has one more row, a put of this object, behind those of the store that it was
pub record OneMore (words : Conversion) (was is : ToldTape) : Type 0 where
  pub bytes : List ℕ
  pub store : Stored
  pub value : List ℕ
  pub check : Option kept.Check
  pub told : Option (List ℕ)
  pub held : Agrees (or_empty was) (Some bytes)
  pub read : IsStored bytes (Ok store)
  pub holds : HoldsRows (with_row (put_of words.path words.resource value check) store) told
  pub is_told : is ≡ option_map Some told

-- the tape begins with the file of the store that it was
pub record StillBegins (was is : ToldTape) : Type 0 where
  pub bytes : List ℕ
  pub store : Stored
  pub told : Option (List ℕ)
  pub held : Agrees (or_empty was) (Some bytes)
  pub read : IsStored bytes (Ok store)
  pub begins : BeginsWith store told
  pub is_told : is ≡ option_map Some told

-- the tape of a store that `put` was asked to change: no row was added, and the status isn't 0; the
-- write failed, so that the tape's count rose and the status is 4; or the row was added, and the
-- status is 0, or 4 where then the tape couldn't be settled or the output failed. Want of memory,
-- 5, leaves nothing of a row
abbrev pub MayGrow : Conversion → (status : ℕ) → (was is : ToldTape) → (before count : ℕ) → Type 0
MayGrow words status was is before count =
    ((status ≢ 0) × IsUngrown was is)
    ⊎ ((status ≡ 4) × Rose before count × StillBegins was is)
    ⊎ (((status ≡ 0) ⊎ (status ≡ 4)) × OneMore words was is)

-- every tape but this one is the same
abbrev pub OthersStay : (name : List ℕ) → (old new : List ℕ → ToldTape) → Type 0
OthersStay name old new =
    (other : List ℕ) → same_name name other ≡ false → new other ≡ old other

-- a store with these rows behind its own
abbrev pub with_rows : List LogRow → Stored → Stored
with_rows added store = record { format = store.format; rows = store.rows ++ added }

-- a put of a live row's path and resource, with some value and check
abbrev pub IsPutOf : LogRow → stored.Row → Type 0
IsPutOf put row = (value : List ℕ) × (check : Option kept.Check)
    × (put ≡ put_of row.path row.resource value check)

-- each is a put of one of these live rows, in their order; some of them are passed by
abbrev pub ArePutsOf : List LogRow → List stored.Row → Type 0
ArePutsOf [] live = ⊤
ArePutsOf (put ∷ puts) [] = ⊥
ArePutsOf (put ∷ puts) (row ∷ live) =
    ArePutsOf (put ∷ puts) live ⊎ (IsPutOf put row × ArePutsOf puts live)

-- what was copied of the rows of a store, by its configuration, and the rows still to come
pub record Copies (words : Migration) (old : Outside) (copied rest : List LogRow) : Type 0 where
  pub file : Option (List ℕ)
  pub rows : List ConfigEntry
  pub bytes : List ℕ
  pub source : Stored
  pub configured : Agrees (old.file words.config) file
  pub means : IsConfiguration words.config file (Ok rows)
  pub held : Agrees (old.tapes.told words.store) (Some bytes)
  pub read : IsStored bytes (Ok source)
  pub all : copied ++ rest ≡ map (migrated_row rows) source.rows

-- a new store of these rows
abbrev pub new_store : List LogRow → Stored
new_store rows = record { format = Two; rows = rows }

-- a command may end so amid the rows that it writes: by a fault, for want of memory, or at a limit
abbrev pub MayEndAmidRows : (status : ℕ) → Type 0
MayEndAmidRows status = (status ≡ 4) ⊎ (status ≡ 5) ⊎ (status ≡ 6)

-- no row of a store is lost, and nothing but puts at its live paths was added: the tape has the
-- rows that it had, puts of some of the live rows up to one behind them, and no more. At status 0
-- and 1 all live rows were met; else the status is 4, 5 or 6. The write of a further row failed
-- only where the tape's count rose and the status is 4, and the tape then begins with those rows
pub record KeepsRows (status : ℕ) (was is : ToldTape) (before count : ℕ) : Type 0 where
  pub bytes : List ℕ
  pub store : Stored
  pub met : List stored.Row
  pub rest : List stored.Row
  pub added : List LogRow
  pub told : Option (List ℕ)
  pub held : Agrees was (Some bytes)
  pub read : IsStored bytes (Ok store)
  pub listing : IsListing store.rows (met ++ rest)
  pub added_are : ArePutsOf added met
  pub is_told : is ≡ option_map Some told
  pub holds : (((status ≡ 0) ⊎ (status ≡ 1)) × (rest ≡ [])
      × HoldsRows (with_rows added store) told)
      ⊎ (MayEndAmidRows status × HoldsRows (with_rows added store) told)
      ⊎ ((status ≡ 4) × Rose before count × (rest ≢ [])
      × BeginsWith (with_rows added store) told)

-- the tape that a migration writes was empty, or was made: the write of a row failed, so that the
-- tape's count rose and the status is 4, and it begins with the file of the rows before; or it has
-- the file of the rows that were copied, all of them, and then the status is 0, or 4 where then the
-- tape couldn't be settled or the output failed; or not all, and then the status is 4, 5 or 6. So a
-- migration that is refused by its configuration or its stores, 3, has copied no row
pub record IsCopied (words : Migration) (status : ℕ) (old new : Outside) : Type 0 where
  pub copied : List LogRow
  pub rest : List LogRow
  pub told : Option (List ℕ)
  pub copies : Copies words old copied rest
  pub empty : Agrees (or_empty (old.tapes.told words.to)) (Some [])
  pub is_told : new.tapes.told words.to ≡ option_map Some told
  pub holds : ((status ≡ 4) × Rose (old.tapes.faults words.to) (new.tapes.faults words.to)
      × (rest ≢ []) × BeginsWith (new_store copied) told)
      ⊎ (((status ≡ 0) ⊎ (status ≡ 4)) × (rest ≡ []) × HoldsRows (new_store copied) told)
      ⊎ (MayEndAmidRows status × (rest ≢ []) × HoldsRows (new_store copied) told)

-- the tapes before and after a command; but for `put`, `migrate` and `rewrite` they are the same
abbrev pub LeavesTapes : Command → (status : ℕ) → (old new : Outside) → Type 0
LeavesTapes (Put words store) status old new = OthersStay store old.tapes.told new.tapes.told
    × MayGrow words status (old.tapes.told store) (new.tapes.told store)
    (old.tapes.faults store) (new.tapes.faults store)
LeavesTapes (Migrate words) status old new =
    OthersStay words.to old.tapes.told new.tapes.told
    × (((status ≢ 0) × IsUngrown (old.tapes.told words.to) (new.tapes.told words.to))
    ⊎ IsCopied words status old new)
LeavesTapes (Rewrite words) status old new =
    OthersStay words.store old.tapes.told new.tapes.told
    × (((status ≢ 0) × (new.tapes.told words.store ≡ old.tapes.told words.store))
    ⊎ KeepsRows status (old.tapes.told words.store) (new.tapes.told words.store)
    (old.tapes.faults words.store) (new.tapes.faults words.store))
LeavesTapes command status old new = new.tapes.told ≡ old.tapes.told

-- the last that the world was told is that this tape is back settled: all that it holds is on the
-- device
abbrev pub IsSettledLast : (name : List ℕ) → (asked : Option (List WorldCall)) → Type 0
IsSettledLast name asked =
    (before : Option (List WorldCall)) × (asked ≡ with_call (Settled name) before)

-- the tape that the command writes is settled
abbrev pub Settles : Command → (new : Outside) → Type 0
Settles (Put words store) new = IsSettledLast store new.asked
Settles (Migrate words) new = IsSettledLast words.to new.asked
Settles (Rewrite words) new = IsSettledLast words.store new.asked
Settles command new = ⊤

-- the words stopped the call, and nothing was written; or they ask for a command that leaves the
-- tapes so, and settled what it wrote at status 0, and wherever anything of it was printed
abbrev pub AreLeft : List (List ℕ) → Environment → Environment → Receipt → (status : ℕ) → Type 0
AreLeft words old new output status =
    ((status ≢ 0) × (new.world.tapes.told ≡ old.world.tapes.told) × WroteNothing output)
    ⊎ ((command : Command) × Asks words command
    × LeavesTapes command status old.world new.world
    × (status ≡ 0 → Settles command new.world)
    × (WroteNothing output ⊎ Settles command new.world))
