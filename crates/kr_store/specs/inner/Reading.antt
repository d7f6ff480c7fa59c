-- Reading a tape from front to back, part by part.
use Rattle.std.specs.Prelude.{◌≡◌, ◌≢◌, ℕ, ◌+◌, ◌<◌, ◌≤◌, ◌⊎◌, List, ◌∷◌, ◌++◌, length, take, Option, None, IfSome, IsTrue, Bool, true, false, Result, Ok, Err, ⊤}
use Rattle.std.specs.Prelude.{Vec}
use Rattle.std.specs.declared.alloc.Global.{Global}
use Rattle.std.specs.Int.{w64, to_be_bytes}
use Rattle.std.specs.Io.KnownBytes.{Consumes}
use Rattle.kr_base.specs.Faults.{Rose, counted, tells_fault}
use Rattle.kr_base.specs.Told.{Agrees}
use Rattle.kr_store.specs.declared.format.Check.{Check}
use Rattle.kr_store.specs.declared.format.Format.{Format}
use Rattle.kr_store.specs.declared.kept_row.RowKind.{RowKind}
use Rattle.kr_store.specs.declared.kept_row.KeptRow.{KeptRow}
use Rattle.kr_store.specs.declared.load.Contents.{Contents}
use Rattle.kr_store.specs.declared.index.Index.{Index}
use Rattle.kr_store.specs.declared.answers.StoreNo.{StoreNo}
use Rattle.kr_store.specs.declared.answers.StoreNo.TheVariants as no
use Rattle.kr_store.specs.declared.answers.Cause.{Cause}
use Rattle.kr_store.specs.declared.answers.Cause.TheVariants.{Torn, BadRow, Order}
use Rattle.kr_store.specs.declared.answers.LoadStop.{LoadStop}
use Rattle.kr_store.specs.declared.answers.LoadStop.TheVariants.{Breach, Failed, NoMemory}
use Rattle.kr_store.specs.File.{store_name, magic, IsFile, text_bytes, value_bytes, check_bytes, row_bytes, kind_byte}
use Rattle.kr_store.specs.Breaches.{Read, part, IsBreach}
use Rattle.kr_store.specs.inner.Index.{IsIndexOf}
use Rattle.kr_store.specs.inner.KeptRows.{log_row_of, log_rows_of, AreKeptRows}

-- what the tape tells, and of it what is left; the place that is read next, the end, and how often
-- the tape failed
pub record Ahead : Type 0 where
  pub told : Option (List ℕ)
  pub left : Option (List ℕ)
  pub place : ℕ
  pub end : ℕ
  pub count : ℕ

-- reading leaves the tape as it is; its count rose by one where it failed, and else it is as before
pub record Moves (failed : Bool) (old new : Ahead) : Type 0 where
  pub told : new.told ≡ old.told
  pub end : new.end ≡ old.end
  pub within : new.place ≤ new.end
  pub known : IfSome new.left (λ bytes. new.place + length bytes ≡ new.end)
  pub later : old.count ≤ new.count
  pub rose : IsTrue failed → Rose old.count new.count
  pub once : new.count ≡ counted failed old.count

-- reading leaves the tape as it is, and its count rose exactly where it answers that the tape failed
abbrev pub Advances : {A E : Type 0} → (E → Bool) → Ahead → Ahead → Result A E → Type 0
Advances is_fault old new result = Moves (tells_fault is_fault result) old new

-- whether reading stops since the tape failed
abbrev pub stop_failed : LoadStop → Bool
stop_failed (Breach cause) = false
stop_failed Failed = true
stop_failed NoMemory = false

-- bytes that may be those that are left can't be read so
pub record Breaks {A : Type 0} (old : Ahead) (reads : List ℕ → Read A) (cause : Cause)
    : Type 0 where
  pub bytes : List ℕ
  pub agrees : Agrees old.left bytes
  pub within : old.place + length bytes ≤ old.end
  pub breaks : reads bytes ≡ Err cause

-- bytes that may be those that are left have this first breach
pub record MayBreak (old : Ahead) (why : StoreNo) : Type 0 where
  pub bytes : List ℕ
  pub agrees : Agrees old.left bytes
  pub within : length bytes ≤ old.end
  pub breach : IsBreach bytes why

-- bytes were taken from the front
pub record Takes (old new : Ahead) (front : List ℕ) : Type 0 where
  pub consumed : Consumes old.left new.left front
  pub place : new.place ≡ old.place + length front

-- at least one byte was taken, at most as many as fit; none only where the tape tells nothing
abbrev pub Begins : Ahead → Ahead → List ℕ → Result ℕ LoadStop → Type 0
Begins old new into (Ok n) = (0 < n) × (n ≤ length into) × Takes old new (take n into)
Begins old new into (Err (Breach cause)) = (old.left ≡ None) × (cause ≡ Torn)
Begins old new into (Err Failed) = ⊤
Begins old new into (Err NoMemory) = ⊥

-- the buffer holds the next bytes, or fewer are left
abbrev pub Fills : {A : Type 0} → Ahead → Ahead → List ℕ → Result A LoadStop → Type 0
Fills old new into (Ok x) = Takes old new into
Fills old new into (Err (Breach cause)) = Breaks old (part (length into)) cause
Fills old new into (Err Failed) = ⊤
Fills old new into (Err NoMemory) = ⊥

-- fewer bytes are left than were asked, or the tape tells nothing
abbrev pub IsShort : {A : Type 0} → Ahead → ℕ → Result A LoadStop → Type 0
IsShort old n (Ok x) = ⊤
IsShort old n (Err (Breach cause)) = (old.end < old.place + n) ⊎ (old.left ≡ None)
IsShort old n (Err Failed) = ⊤
IsShort old n (Err NoMemory) = ⊥

-- the front of a file, at most 8 bytes, is a magic, or differs from each, or ends inside them
abbrev pub IsNamed : List ℕ → Result Format StoreNo → Type 0
IsNamed front (Ok format) = front ≡ magic format
IsNamed front (Err no.Magic) = (format : Format) → front ≢ take (length front) (magic format)
IsNamed front (Err (no.Torn at)) =
    (at ≡ 0) × (length front ≤ length store_name) × (front ≡ take (length front) store_name)
IsNamed front (Err (no.BadRow at)) = ⊥
IsNamed front (Err (no.Order at)) = ⊥
IsNamed front (Err no.TooLong) = ⊥
IsNamed front (Err no.Failed) = ⊥
IsNamed front (Err no.NoMemory) = ⊥

-- the file begins with the magic of this format, or is broken there
abbrev pub Names : Ahead → Ahead → Result Format StoreNo → Type 0
Names old new (Ok format) = Takes old new (magic format)
Names old new (Err no.Magic) = MayBreak old no.Magic
Names old new (Err (no.Torn at)) = MayBreak old (no.Torn at)
Names old new (Err (no.BadRow at)) = ⊥
Names old new (Err (no.Order at)) = ⊥
Names old new (Err no.TooLong) = ⊥
Names old new (Err no.Failed) = ⊤
Names old new (Err no.NoMemory) = ⊤

-- the rows of a whole file, with their index
pub record AreLoaded (old : Ahead) (format : Format) (rows : List KeptRow) (index : Index)
    : Type 0 where
  pub bytes : List ℕ
  pub agrees : Agrees old.left bytes
  pub length : length bytes ≡ old.end
  pub file : IsFile format (log_rows_of rows) bytes
  pub kept_rows : AreKeptRows format 1 rows
  pub indexed : IsIndexOf (log_rows_of rows) index

-- the rows were loaded, or this is the first breach
abbrev pub LoadsRows : Ahead → Result Contents StoreNo → Type 0
LoadsRows old (Ok contents) = AreLoaded old contents.format contents.rows.0 contents.index
LoadsRows old (Err no.Magic) = MayBreak old no.Magic
LoadsRows old (Err (no.Torn at)) = MayBreak old (no.Torn at)
LoadsRows old (Err (no.BadRow at)) = MayBreak old (no.BadRow at)
LoadsRows old (Err (no.Order at)) = MayBreak old (no.Order at)
LoadsRows old (Err no.TooLong) = ⊥
LoadsRows old (Err no.Failed) = ⊤
LoadsRows old (Err no.NoMemory) = ⊤

-- something was read, whose bytes are these, or it can't be read
abbrev pub Gives :
    {A B : Type 0} → Ahead → Ahead → (A → List ℕ) → (List ℕ → Read B) → Result A LoadStop → Type 0
Gives old new written reads (Ok x) = Takes old new (written x)
Gives old new written reads (Err (Breach cause)) = Breaks old reads cause
Gives old new written reads (Err Failed) = ⊤
Gives old new written reads (Err NoMemory) = ⊤

-- a part was read, whose bytes are these, or it can't be read: and the tape stays as it is
pub record Reads {A B : Type 0} (old new : Ahead) (written : A → List ℕ)
    (reads : List ℕ → Read B) (result : Result A LoadStop) : Type 0 where
  pub advances : Advances stop_failed old new result
  pub gives : Gives old new written reads result

-- the bytes that are written for what was read
abbrev pub items_of : Vec ℕ Global → List ℕ
items_of bytes = bytes.items

abbrev pub sized_bytes : Vec ℕ Global → List ℕ
sized_bytes bytes = text_bytes bytes.items

abbrev pub head_bytes : ℕ → RowKind × List ℕ → List ℕ
head_bytes k head = kind_byte head.0 ∷ (to_be_bytes w64 k ++ text_bytes head.1)

abbrev pub put_bytes : List ℕ × Option Check × List ℕ → List ℕ
put_bytes put = text_bytes put.0 ++ (check_bytes put.1 ++ value_bytes put.2)

abbrev pub kept_bytes : ℕ → KeptRow → List ℕ
kept_bytes k row = row_bytes k (log_row_of row)

-- why a row that begins at this place can't be loaded
abbrev pub load_refusal : LoadStop → ℕ → StoreNo
load_refusal (Breach Torn) at = no.Torn at
load_refusal (Breach BadRow) at = no.BadRow at
load_refusal (Breach Order) at = no.Order at
load_refusal Failed at = no.Failed
load_refusal NoMemory at = no.NoMemory
