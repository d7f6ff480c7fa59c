-- What a world tells, in parts, and how each goes on over a call: its files, what it was asked for,
-- its counts of faults, and the random sources, tapes and links that it lends.
use Rattle.std.specs.Prelude.{◌≡◌, ◌≢◌, ℕ, ◌+◌, ◌^◌, ◌-◌, ◌<◌, ◌≤◌, ◌⊎◌, ◌==◌, ◌&&◌, min, Bool, true, false, List, [], ◌∷◌, ◌++◌, length, Option, Some, None, Result, Ok, Err, ⊤, if◌then◌else◌}
use Rattle.std.specs.Option.{option_map}
use Rattle.std.specs.Str.{bytes_eq}
use Rattle.kr_base.specs.Faults.{Rose}
use Rattle.kr_base.specs.Told.{Agrees}
use Rattle.kr_kms.specs.Calls.{Link}
use Rattle.kr_kms.specs.declared.file_faults.FileFaults.{FileFaults}
use Rattle.kr_kms.specs.declared.plugin.Status.{Status}
use Rattle.kr_kms.specs.declared.world.Access.{Access}
use Rattle.kr_kms.specs.declared.world.Access.TheVariants.{ToRead, ToWrite, ToMake}
use Rattle.kr_kms.specs.declared.world.WorldCall.{WorldCall}
use Rattle.kr_kms.specs.declared.world.FileNo.{FileNo}
use Rattle.kr_kms.specs.declared.world.FileNo.TheVariants.{Absent, TooLong, Failed, NoMemory}

-- objects that are lent by a key: what is told of each, its count of faults, how many with the key
-- are out, and the keys of all that were handed out so far, one behind another, where it tells
-- that. What is told of an object that is out is told by it alone
pub record Objects (K V : Type 0) : Type 0 where
  pub told : K → V
  pub faults : K → ℕ
  pub out : K → ℕ
  pub handed : Option (List K)

pub record Outside : Type 0 where
  -- a file by its name: none where the world doesn't tell; else absent, or its bytes
  pub file : List ℕ → Option (Option (List ℕ))
  -- what it was asked for so far, one call behind another, where it tells that
  pub asked : Option (List WorldCall)
  -- how often its files failed, a count for each kind of call
  pub faults : FileFaults
  -- a random source by the number of its seat: what it will give, where that is told
  pub dice : Objects ℕ (Option (List ℕ))
  -- a tape by its name: none where the world doesn't tell; else absent, or its bytes
  pub tapes : Objects (List ℕ) (Option (Option (List ℕ)))
  -- a link by the number of its seat and the name of its plugin: the status that it tells
  pub links : Objects (ℕ × List ℕ) (Option Status)

-- ---- files and their counts

-- the faults of all its files, up to the greatest number
abbrev pub file_faults : Outside → ℕ
file_faults world =
    min (world.faults.loads + world.faults.tapes + world.faults.dice + world.faults.links)
    (2 ^ 64 - 1)

-- no count fell
pub record IsLater (old new : FileFaults) : Type 0 where
  pub loads : old.loads ≤ new.loads
  pub tapes : old.tapes ≤ new.tapes
  pub dice : old.dice ≤ new.dice
  pub links : old.links ≤ new.links

-- no file changed, and no count fell
pub record KeepsFiles (old new : Outside) : Type 0 where
  pub file : new.file ≡ old.file
  pub later : IsLater old.faults new.faults

-- nothing is handed out or given back
pub record KeepsObjects (old new : Outside) : Type 0 where
  pub dice : new.dice ≡ old.dice
  pub tapes : new.tapes ≡ old.tapes
  pub links : new.links ≡ old.links

-- a file within the limit was given, or why not
abbrev pub FetchesFile : Outside → Outside → List ℕ → ℕ → Result (List ℕ) FileNo → Type 0
FetchesFile old new name limit (Ok bytes) =
    Agrees (old.file name) (Some bytes) × (length bytes ≤ limit)
FetchesFile old new name limit (Err Absent) = Agrees (old.file name) None
FetchesFile old new name limit (Err TooLong) =
    (bytes : List ℕ) × (limit < length bytes) × Agrees (old.file name) (Some bytes)
FetchesFile old new name limit (Err Failed) = Rose old.faults.loads new.faults.loads
FetchesFile old new name limit (Err NoMemory) = ⊤

-- whether a call failed: the count of its kind is one higher then, and else as before
abbrev pub has_failed : {T : Type 0} → Result T FileNo → Bool
has_failed (Ok object) = false
has_failed (Err Absent) = false
has_failed (Err TooLong) = false
has_failed (Err Failed) = true
has_failed (Err NoMemory) = false

-- ---- what it was asked for

-- one more call was made
abbrev pub with_call : WorldCall → Option (List WorldCall) → Option (List WorldCall)
with_call call asked = option_map (λ calls. calls ++ call ∷ []) asked

-- the call was made, and no other; where there was no memory, perhaps not even this
abbrev pub NotesCall : {T : Type 0} → Outside → Outside → WorldCall → Result T FileNo → Type 0
NotesCall old new call (Err NoMemory) =
    (new.asked ≡ old.asked) ⊎ (new.asked ≡ with_call call old.asked)
NotesCall old new call result = new.asked ≡ with_call call old.asked

-- ---- objects that are lent

-- n at the key, 0 at each other
abbrev pub at_key : {K : Type 0} → (same : K → K → Bool) → K → ℕ → K → ℕ
at_key same key n other = if same key other then n else 0

-- one more key
abbrev pub with_handed : {K : Type 0} → K → Option (List K) → Option (List K)
with_handed key handed = option_map (λ keys. keys ++ key ∷ []) handed

-- an object with the key and this count was handed out; all others stay
pub record HandsOut {K V : Type 0} (same : K → K → Bool) (old new : Objects K V) (key : K)
    (count : ℕ) : Type 0 where
  pub count_is : count ≡ old.faults key
  pub out : (other : K) → new.out other ≡ old.out other + at_key same key 1 other
  pub handed : new.handed ≡ with_handed key old.handed
  pub told : (other : K) → other ≢ key → new.told other ≡ old.told other
  pub faults : (other : K) → other ≢ key → new.faults other ≡ old.faults other

-- an object with the key and this count came back; all others stay
pub record TakesBack {K V : Type 0} (same : K → K → Bool) (old new : Objects K V) (key : K)
    (count : ℕ) : Type 0 where
  pub count_is : new.faults key ≡ count
  pub out : (other : K) → new.out other + at_key same key 1 other ≡ old.out other
  pub handed : new.handed ≡ old.handed
  pub told : (other : K) → other ≢ key → new.told other ≡ old.told other
  pub faults : (other : K) → other ≢ key → new.faults other ≡ old.faults other

abbrev pub same_seat : ℕ → ℕ → Bool
same_seat seat other = seat == other

abbrev pub same_name : List ℕ → List ℕ → Bool
same_name name other = bytes_eq name other

-- the same seat and the same plugin
abbrev pub same_link : ℕ × List ℕ → ℕ × List ℕ → Bool
same_link link other = (link.0 == other.0) && bytes_eq link.1 other.1

-- a random source or a link is refused for a fault or for want of memory
abbrev pub IsFaultOrMemory : FileNo → Type 0
IsFaultOrMemory why = (why ≡ Failed) ⊎ (why ≡ NoMemory)

-- whether a tape that is asked for so is made where it is absent
abbrev pub makes : Access → Bool
makes ToRead = false
makes ToWrite = false
makes ToMake = true

-- the tape has what is told under its name; one that was absent may be made, and is empty then
abbrev pub IsTape : Option (Option (List ℕ)) → (make : Bool) → Option (List ℕ) → Type 0
IsTape None make held = held ≡ None
IsTape (Some None) make held = (make ≡ true) × (held ≡ Some [])
IsTape (Some (Some bytes)) make held = held ≡ Some bytes

-- why there is no tape: one that may be made is never absent
abbrev pub RefusesTape : Option (Option (List ℕ)) → (make : Bool) → FileNo → Type 0
RefusesTape tape make Absent = (make ≡ false) × Agrees tape None
RefusesTape tape make TooLong = ⊥
RefusesTape tape make Failed = ⊤
RefusesTape tape make NoMemory = ⊤

-- the link to the plugin: no fault of it is forgotten, and it tells the told status
abbrev pub link_at : Objects (ℕ × List ℕ) (Option Status) → (seat : ℕ) (plugin : List ℕ) → Link
link_at links seat plugin = record {
  name = plugin;
  count = links.faults (seat, plugin);
  status = links.told (seat, plugin);
}
