-- What the phases over a lent tape give to a command.
use Rattle.std.specs.Prelude.{◌≡◌, ◌≤◌, ℕ, false, List, [], ◌∷◌, ◌++◌, length, Option, None, Some, Result, Ok, Err, ⊤}
use Rattle.std.specs.Option.{option_map}
use Rattle.kr_base.specs.Faults.{Rose}
use Rattle.kr_base.specs.Limits.{store_limit}
use Rattle.kr_base.specs.Told.{Agrees}
use Rattle.kr_kms.specs.Outside.{Outside, with_call, file_faults, same_name, KeepsFiles, HandsOut, TakesBack, IsTape, makes}
use Rattle.kr_kms.specs.declared.world.WorldCall.TheVariants.{Returned, Settled, Tape}
use Rattle.kr_kms.specs.declared.world.Access.{Access}
use Rattle.kr_store.specs.File.{IsFile}
use Rattle.kr_store.specs.Stores.{Kept}
use Rattle.kr_store.specs.Rows.{live}
use Rattle.kr_store.specs.declared.rows.LogRow.{LogRow}
use Rattle.kr_store.specs.declared.rows.Row.{Row}
use Rattle.kr_store.specs.declared.answers.PutNo.{PutNo}
use Rattle.kr_store.specs.declared.answers.PutNo.TheVariants as put
use Rattle.kr_store.specs.declared.answers.StoreNo.{StoreNo}
use Rattle.kr_store.specs.declared.answers.StoreNo.TheVariants as no
use Rattle.kr_cmd_steps.specs.Phases.{silently}
use Rattle.kr_cmd_steps.specs.StoreFiles.{Stored, with_row}
use Rattle.kr_base.specs.Visible.{visible}
use Rattle.kr_cmd_messages.specs.declared.refusal.Breach.TheVariants as breach
use Rattle.kr_cmd_messages.specs.declared.refusal.Limit.TheVariants as limit
use Rattle.kr_cmd_messages.specs.declared.refusal.Object.{Object}
use Rattle.kr_cmd_messages.specs.declared.refusal.Object.TheVariants.{Files}
use Rattle.kr_cmd_messages.specs.declared.refusal.Refusal.TheVariants.{Absent, Limit, Broken, NoPath}
use Rattle.kr_cmd_messages.specs.declared.refusal.Outcome.{Outcome}
use Rattle.kr_cmd_messages.specs.declared.refusal.Stop.{Stop}
use Rattle.kr_cmd_messages.specs.declared.refusal.Stop.TheVariants.{Words, Refused, Fault, NoMemory}

-- why no tape was handed out
abbrev pub NoTape : Outside → Outside → (name : List ℕ) (access : Access) → Stop → Type 0
NoTape old new name access (Refused why) =
    (makes access ≡ false) × Agrees (old.tapes.told name) None × (why ≡ Absent (visible name))
NoTape old new name access (Fault object count) =
    (object ≡ Files) × Rose old.faults.tapes new.faults.tapes × (count ≡ file_faults new)
NoTape old new name access NoMemory = ⊤
NoTape old new name access (Words why) = ⊥

-- the tape of the name was handed out, and nothing else done but the call noted
pub record LentTape (name : List ℕ) (access : Access) (old new : Outside) (told : Option (List ℕ))
    (count : ℕ) : Type 0 where
  pub out : HandsOut same_name old.tapes new.tapes name count
  pub tape : IsTape (old.tapes.told name) (makes access) told
  pub files : KeepsFiles old new
  pub asked : new.asked ≡ with_call (Tape name access) old.asked
  pub dice : new.dice ≡ old.dice
  pub links : new.links ≡ old.links

-- it came back, and nothing else was done
pub record ReturnedTape (name : List ℕ) (old new : Outside) (told : Option (List ℕ)) (count : ℕ)
    : Type 0 where
  pub home : TakesBack same_name old.tapes new.tapes name count
  pub tape : new.tapes.told name ≡ option_map Some told
  pub file : new.file ≡ old.file
  pub faults : new.faults ≡ old.faults
  pub asked : new.asked ≡ old.asked
  pub dice : new.dice ≡ old.dice
  pub links : new.links ≡ old.links

-- a world that was told that a tape of the name is back settled
abbrev pub with_settled : (name : List ℕ) → Outside → Outside
with_settled name world = record world { asked = with_call (Settled name) world.asked }

-- the tape came back: settled, where something was made; or it couldn't be settled, and that fault
-- stands in place of what was made; or what ended the command stands
abbrev pub ReturnsSettled : {A : Type 0} → (name : List ℕ) → Object → (old new : Outside)
    → (told : Option (List ℕ)) (count : ℕ) → (made result : Result A Stop) → Type 0
ReturnsSettled name object old new told count (Ok made) (Ok x) =
    (x ≡ made) × ReturnedTape name (with_settled name old) new told count
ReturnsSettled name object old new told count (Ok made) (Err stop) =
    (later : ℕ) × Rose count later × (stop ≡ Fault object later)
    × ReturnedTape name old new told later
ReturnsSettled name object old new told count (Err why) result =
    (result ≡ Err why) × ReturnedTape name old new told count

-- a world that was told that a tape of the name is back, which was read
abbrev pub with_returned : (name : List ℕ) → Outside → Outside
with_returned name world = record world { asked = with_call (Returned name) world.asked }

-- the tape came back: as one that was read, where something was read of it; or what ended the
-- command stands
abbrev pub ReturnsRead : {A : Type 0} → (name : List ℕ) → (old new : Outside)
    → (told : Option (List ℕ)) (count : ℕ) → (read : Result A Stop) → Type 0
ReturnsRead name old new told count (Ok x) =
    ReturnedTape name (with_returned name old) new told count
ReturnsRead name old new told count (Err why) = ReturnedTape name old new told count

-- why a store wasn't loaded, as a command says it, by the faults of its tape
abbrev pub load_stop : Object → ℕ → StoreNo → Stop
load_stop object faults no.Magic = Refused (Broken breach.Magic)
load_stop object faults (no.Torn at) = Refused (Broken (breach.Torn at))
load_stop object faults (no.BadRow at) = Refused (Broken (breach.BadRow at))
load_stop object faults (no.Order at) = Refused (Broken (breach.Order at))
load_stop object faults no.TooLong = Refused (Limit limit.Store)
load_stop object faults no.Failed = Fault object faults
load_stop object faults no.NoMemory = NoMemory

-- why a row wasn't written, as a command says it, by the faults of its tape
abbrev pub IsWriteStop : Object → (faults : ℕ) → PutNo → Stop → Type 0
IsWriteStop object faults put.Failed stop = stop ≡ Fault object faults
IsWriteStop object faults (put.Full needed) stop = stop ≡ Refused (Limit limit.Store)
IsWriteStop object faults (put.Changed revision) stop = ⊥
IsWriteStop object faults put.NoMemory stop = stop ≡ NoMemory

abbrev pub stored_of : Kept → Stored
stored_of store = record { format = store.format; rows = store.rows }

-- the tape's file was read: the store has its format, its rows and its length, and the tape tells
-- as it did
pub record IsLoaded (told : Option (List ℕ)) (before : ℕ) (store : Kept) : Type 0 where
  pub bytes : List ℕ
  pub agrees : Agrees told bytes
  pub within : length bytes ≤ store_limit
  pub file : IsFile store.format store.rows bytes
  pub length_is : store.length ≡ length bytes
  pub told_is : store.told ≡ told
  pub later : before ≤ store.count

-- a store has one more row
pub record HasOneMore (row : LogRow) (old new : Kept) : Type 0 where
  pub rows : new.rows ≡ old.rows ++ row ∷ []
  pub format : new.format ≡ old.format
  pub within : new.limit ≡ old.limit

-- the live row of the path was found, or there is none
abbrev pub IsLookedUp : List LogRow → (path : List ℕ) → Result Row Stop → Type 0
IsLookedUp rows path (Ok row) = live rows path ≡ Some row
IsLookedUp rows path (Err (Refused why)) = (live rows path ≡ None) × (why ≡ NoPath path)
IsLookedUp rows path (Err NoMemory) = ⊤
IsLookedUp rows path result = ⊥

-- the store with the row, where it was added
abbrev pub grown_by : LogRow → Stored → Result (Unit {0}) Stop → Result Stored Stop
grown_by row store (Ok done) = Ok (with_row row store)
grown_by row store (Err stop) = Err stop

-- the line of `put`, where its row was added
abbrev pub answered : Result (Unit {0}) Stop → (line : List ℕ) → Result Outcome Stop
answered (Ok done) line = Ok (silently line)
answered (Err stop) line = Err stop

-- the path of the row where a walk over the live rows is; the empty one at its begin
abbrev pub walk_path : Option Row → List ℕ
walk_path None = []
walk_path (Some row) = row.path
