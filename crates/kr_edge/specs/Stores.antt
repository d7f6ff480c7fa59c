-- By which calls of the system a store is opened and a program started, and why not.
use Rattle.std.specs.Prelude.{◌≡◌, ◌≢◌, ℕ, ◌⊎◌, Bool, true, false, List, [], ◌∷◌, Option, None, Some, Result, Ok, Err, codes}
use Rattle.std.specs.Fs.{new_options, with_read, with_write, with_create_new}
use Rattle.std.specs.Path.{path_parent}
use Rattle.std.specs.declared.fs.options.OpenOptions.{OpenOptions}
use Rattle.std.specs.declared.process.child.Child.{Child}
use Rattle.kr_kms.specs.Outside.{makes}
use Rattle.kr_kms.specs.declared.world.Access.{Access}
use Rattle.kr_kms.specs.declared.world.Access.TheVariants.{ToRead, ToWrite, ToMake}
use Rattle.kr_kms.specs.declared.world.FileNo.{FileNo}
use Rattle.kr_kms.specs.declared.world.FileNo.TheVariants as file
use Rattle.kr_edge.specs.SystemCalls.{has_ends, noted, with_note}
use Rattle.kr_edge.specs.declared.system.ChildStream.TheVariants.{Piped, Shared}
use Rattle.kr_edge.specs.declared.system.ChildStreams.{ChildStreams}
use Rattle.kr_edge.specs.declared.system.Found.{Found}
use Rattle.kr_edge.specs.declared.system.Found.TheVariants.{Absent, Empty, Filled, Device, Other, Failed}
use Rattle.kr_edge.specs.declared.system.OpenNo.{OpenNo}
use Rattle.kr_edge.specs.declared.system.OpenNo.TheVariants as why
use Rattle.kr_edge.specs.declared.system.ProcessStartNo.{ProcessStartNo}
use Rattle.kr_edge.specs.declared.system.ProcessStartNo.TheVariants as no
use Rattle.kr_edge.specs.declared.system.SystemCall.{SystemCall}
use Rattle.kr_edge.specs.declared.system.SystemCall.TheVariants.{Read, Look, Open, Lock, LookAt, SyncFolder, Start}

-- the folder of a file: what stands before its name, or the one that this process is in
abbrev pub named_folder : Option (List ℕ) → List ℕ
named_folder None = codes "."
named_folder (Some []) = codes "."
named_folder (Some (byte ∷ bytes)) = byte ∷ bytes

abbrev pub parent_folder : List ℕ → List ℕ
parent_folder name = named_folder (path_parent name)

-- a store that is only read needs no right to write, and others may read it too
abbrev pub only_reads : Access → Bool
only_reads ToRead = true
only_reads ToWrite = false
only_reads ToMake = false

-- a plain file that is there is opened as it is, for what it is asked for
abbrev pub options_by : Access → OpenOptions
options_by ToRead = with_read new_options true
options_by ToWrite = with_write (with_read new_options true) true
options_by ToMake = with_write (with_read new_options true) true

-- where there is none it may be made, and must be new then
abbrev pub open_options : Access → Found → Option OpenOptions
open_options access Empty = Some (options_by access)
open_options access Filled = Some (options_by access)
open_options ToMake Absent = Some (with_create_new (options_by ToMake) true)
open_options access found = None

-- the options, or why it can't be opened
abbrev pub ChoosesOptions : Access → Found → Result OpenOptions OpenNo → Type 0
ChoosesOptions access found (Ok options) = open_options access found ≡ Some options
ChoosesOptions access found (Err why.Absent) = (found ≡ Absent) × (makes access ≡ false)
ChoosesOptions access found (Err why.Failed) =
    (found ≡ Device) ⊎ (found ≡ Other) ⊎ (found ≡ Failed)

-- the file of the name was looked at behind its lock, which readers share and a writer has alone;
-- or it is locked already
abbrev pub LooksLocked : (name : List ℕ) → Access → Option (List SystemCall)
    → Option (List SystemCall) → Option Found → Type 0
LooksLocked name access old new (Some at) =
    new ≡ noted (Lock name (only_reads access) true ∷ LookAt name at ∷ []) old
LooksLocked name access old new None = new ≡ with_note (Lock name (only_reads access) false) old

-- the folder of an empty store, which may be new, is synced where one may be made; one that has
-- bytes needs no more calls, and what isn't a plain file is no store
abbrev pub folder_calls : (name : List ℕ) → (make : Bool) → Found → Option (List SystemCall)
folder_calls name make Filled = Some []
folder_calls name true Empty = Some (SyncFolder (parent_folder name) true ∷ [])
folder_calls name false Empty = Some []
folder_calls name make found = None

-- its name was looked at; it was opened, of mode 600 where it is new; it was locked before it was
-- looked at
abbrev pub OpensBy : (name : List ℕ) → Access → List SystemCall → Type 0
OpensBy name access calls = (found at : Found) × (options : OpenOptions) × (last : List SystemCall)
    × (open_options access found ≡ Some options)
    × (folder_calls name (makes access) at ≡ Some last)
    × (calls ≡ Look name found ∷ Open name options 0o600 true
    ∷ Lock name (only_reads access) true ∷ LookAt name at ∷ last)

-- what the last call answered is a reason to open no store
abbrev pub ForbidsOpening : SystemCall → Type 0
ForbidsOpening (Look name found) = (found ≡ Device) ⊎ (found ≡ Other) ⊎ (found ≡ Failed)
ForbidsOpening (Open name options mode opened) = opened ≡ false
ForbidsOpening (Lock name shared locked) = locked ≡ false
ForbidsOpening (LookAt name found) =
    (found ≡ Absent) ⊎ (found ≡ Device) ⊎ (found ≡ Other) ⊎ (found ≡ Failed)
ForbidsOpening (SyncFolder folder synced) = synced ≡ false
ForbidsOpening call = ⊥

abbrev pub OpensStore : {F : Type 0} → (name : List ℕ) → Access
    → Option (List SystemCall) → Option (List SystemCall) → Result F OpenNo → Type 0
OpensStore name access old new (Ok file) =
    (calls : List SystemCall) × OpensBy name access calls × (new ≡ noted calls old)
OpensStore name access old new (Err why.Absent) =
    (makes access ≡ false) × (new ≡ noted (Look name Absent ∷ []) old)
OpensStore name access old new (Err why.Failed) =
    (calls : List SystemCall) × (last : SystemCall) × ForbidsOpening last
    × (new ≡ with_note last (noted calls old))

-- a device was opened to be read, once its name was seen to lead to one; or why not: it leads to
-- something else, or it wasn't opened
abbrev pub OpensDevice : {D : Type 0} → (name : List ℕ)
    → Option (List SystemCall) → Option (List SystemCall) → Option D → Type 0
OpensDevice name old new (Some device) =
    new ≡ noted (Look name Device ∷ Read name None ∷ []) old
OpensDevice name old new None =
    ((found : Found) × (found ≢ Device) × (new ≡ with_note (Look name found) old))
    ⊎ ((answer : OpenNo) × (new ≡ noted (Look name Device ∷ Read name (Some answer) ∷ []) old))

-- a plugin's input and output are pipes, and its errors are this process' own
abbrev pub plugin_streams : ChildStreams
plugin_streams = record { input = Piped; output = Piped; errors = Shared }

-- a plugin was to be started: it was, and has the ends of its pipes, or not
abbrev pub plugin_start : (program : List ℕ) → (started piped : Bool) → SystemCall
plugin_start program started piped = Start program plugin_streams started piped

-- the program was started, and nothing else; or why not. Where there was no memory, perhaps not
-- even that was tried
abbrev pub StartsProgram : {P I O E : Type 0} → (program : List ℕ)
    → Option (List SystemCall) → Option (List SystemCall) → Result (Child P I O E) ProcessStartNo
    → Type 0
StartsProgram program old new (Ok child) =
    new ≡ with_note (plugin_start program true (has_ends child)) old
StartsProgram program old new (Err no.Failed) = new
    ≡ with_note (plugin_start program false false) old
StartsProgram program old new (Err no.NoMemory) =
    (new ≡ old) ⊎ (new ≡ with_note (plugin_start program false false) old)

-- ---- what a world lends

-- the store of a tape was opened; or why there is no tape: one of the name is out, so nothing was
-- asked; or its store was refused; or memory lacked, before anything was asked or behind the
-- opening
abbrev pub LendsStore : {F : Type 0} → (name : List ℕ) → Access → (IsOut : Type 0)
    → Option (List SystemCall) → Option (List SystemCall) → Result F FileNo → Type 0
LendsStore {F} name access IsOut old new (Ok tape) =
    OpensStore {F = F} name access old new (Ok tape)
LendsStore {F} name access IsOut old new (Err file.Absent) =
    OpensStore {F = F} name access old new (Err why.Absent)
LendsStore {F} name access IsOut old new (Err file.TooLong) = ⊥
LendsStore {F} name access IsOut old new (Err file.Failed) =
    (IsOut × (new ≡ old)) ⊎ OpensStore {F = F} name access old new (Err why.Failed)
LendsStore {F} name access IsOut old new (Err file.NoMemory) = (new ≡ old)
    ⊎ ((calls : List SystemCall) × OpensBy name access calls × (new ≡ noted calls old))

-- the file of the name was opened to be read, and nothing else; or why it gave no bytes: it wasn't
-- opened, or what was opened is too long or failed as it was read, or memory lacked for it
abbrev pub LoadsBy : {B : Type 0} → (name : List ℕ) → (FailsToRead : Type 0)
    → Option (List SystemCall) → Option (List SystemCall) → Result B FileNo → Type 0
LoadsBy name FailsToRead old new (Ok bytes) = new ≡ with_note (Read name None) old
LoadsBy name FailsToRead old new (Err file.Absent) =
    new ≡ with_note (Read name (Some why.Absent)) old
LoadsBy name FailsToRead old new (Err file.TooLong) = new ≡ with_note (Read name None) old
LoadsBy name FailsToRead old new (Err file.Failed) =
    (new ≡ with_note (Read name (Some why.Failed)) old)
    ⊎ (FailsToRead × (new ≡ with_note (Read name None) old))
LoadsBy name FailsToRead old new (Err file.NoMemory) = new ≡ with_note (Read name None) old

-- the device of random bytes was opened, and nothing else; or there is no source left to lend, so
-- nothing was asked; or no device stands there, or it wasn't opened
abbrev pub DrawsFrom : {D : Type 0} → (IsLent : Type 0)
    → Option (List SystemCall) → Option (List SystemCall) → Result D FileNo → Type 0
DrawsFrom IsLent old new (Ok dice) = OpensDevice (codes "/dev/urandom") old new (Some dice)
DrawsFrom IsLent old new (Err file.Absent) = ⊥
DrawsFrom IsLent old new (Err file.TooLong) = ⊥
DrawsFrom {D} IsLent old new (Err file.Failed) = (IsLent × (new ≡ old))
    ⊎ OpensDevice {D = D} (codes "/dev/urandom") old new None
DrawsFrom IsLent old new (Err file.NoMemory) = ⊥

-- the program of a link was started; or it wasn't, or has no pipe, or memory lacked
abbrev pub LendsLink : {L : Type 0} → (program : List ℕ)
    → Option (List SystemCall) → Option (List SystemCall) → Result L FileNo → Type 0
LendsLink program old new (Ok link) = new ≡ with_note (plugin_start program true true) old
LendsLink program old new (Err file.Absent) = ⊥
LendsLink program old new (Err file.TooLong) = ⊥
LendsLink program old new (Err file.Failed) =
    (new ≡ with_note (plugin_start program false false) old)
    ⊎ (new ≡ with_note (plugin_start program true false) old)
LendsLink program old new (Err file.NoMemory) = (new ≡ old)
    ⊎ (new ≡ with_note (plugin_start program false false) old)
    ⊎ (new ≡ with_note (plugin_start program true true) old)
