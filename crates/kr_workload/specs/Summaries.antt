-- The summary of a load.
use Rattle.std.specs.Prelude.{◌≡◌, ℕ, ◌+◌, ◌/◌, ◌%◌, nat_lt, Bool, true, false, List, [], ◌∷◌, ◌++◌, codes, count_by, decimal, if◌then◌else◌, Option, Result, Ok, Err}
use Rattle.std.specs.Io.KnownBytes.{Appends, Keeps}
use Rattle.std.specs.List.{flat_map}
use Rattle.std.specs.List.Sorted.{IsPermutation, IsSorted}
use Rattle.std.specs.Ordering.{nat_cmp, ordering_then}
use Rattle.std.specs.Cmp.Lexicographic.{slice_cmp}
use Rattle.std.specs.declared.cmp.Ordering.{Ordering}
use Rattle.sha2.specs.Sha256.{sha256}
use Rattle.kr_base.specs.Faults.{Rose}
use Rattle.kr_base.specs.Streams.{AppendsFront}
use Rattle.kr_script.specs.Fleets.{Worker}
use Rattle.kr_script.specs.declared.script.ScriptLine.{ScriptLine}
use Rattle.kr_script.specs.declared.script.ScriptLine.TheVariants as line
use Rattle.kr_script.specs.declared.told.Told.{Told}
use Rattle.kr_script.specs.declared.told.Told.TheVariants as told
use Rattle.kr_script.specs.declared.told.WriteNo.{WriteNo}
use Rattle.kr_script.specs.declared.told.WriteNo.TheVariants as write

-- what each worker told, a list with its spare room
abbrev pub Replies : Type 0
Replies = List (List Told × ℕ)

-- ---- how many puts and gets were done

unfoldable pub is_put_reply : Told → Bool
is_put_reply (told.Put revision) = true
is_put_reply other = false

unfoldable pub is_got : Told → Bool
is_got (told.Got revision plain) = true
is_got other = false

abbrev pub count_puts : Replies → ℕ
count_puts [] = 0
count_puts (told ∷ replies) = count_by is_put_reply told.0 + count_puts replies

abbrev pub count_gets : Replies → ℕ
count_gets [] = 0
count_gets (told ∷ replies) = count_by is_got told.0 + count_gets replies

-- ---- the digest

-- what workers got: paths with data
abbrev pub GotObjects : Type 0
GotObjects = List (List ℕ × List ℕ)

-- the path of a `get` and the data of its reply, if there are data
abbrev pub replied_objects : ScriptLine → Told → GotObjects
replied_objects (line.Get path) (told.Got revision plain) = (path, plain) ∷ []
replied_objects asked reply = []

-- of each line by its reply
abbrev pub objects_in : List ScriptLine → List Told → GotObjects
objects_in [] replies = []
objects_in (asked ∷ lines) [] = []
objects_in (asked ∷ lines) (reply ∷ replies) = replied_objects asked reply
    ++ objects_in lines replies

-- of each worker by what it told
abbrev pub objects_of : List Worker → Replies → GotObjects
objects_of [] replies = []
objects_of (worker ∷ workers) [] = []
objects_of (worker ∷ workers) (told ∷ replies) =
    objects_in worker.lines told.0 ++ objects_of workers replies

-- by the bytes of the paths; of one path by the data
abbrev pub object_cmp : List ℕ × List ℕ → List ℕ × List ℕ → Ordering
object_cmp one other =
    ordering_then (slice_cmp nat_cmp one.0 other.0) (slice_cmp nat_cmp one.1 other.1)

-- a path and its data, an LF behind both
abbrev pub got_lines : List ℕ × List ℕ → List ℕ
got_lines object = object.0 ++ codes "\n" ++ object.1 ++ codes "\n"

-- the digest over what was got: SHA-256 of the listing in order
pub record IsDigest (objects : GotObjects) (digest : List ℕ) : Type 0 where
  pub listing : GotObjects
  pub same : IsPermutation objects listing
  pub sorted : IsSorted object_cmp listing
  pub digest_is : digest ≡ sha256 (flat_map got_lines listing)

-- it is one alone
abbrev pub OneDigest : Type 0
OneDigest = (objects : GotObjects) (one other : List ℕ) → IsDigest objects one
    → IsDigest objects other → one ≡ other

-- ---- the text

abbrev pub hex_digit : ℕ → ℕ
hex_digit number = if nat_lt number 10 then 0x30 + number else 0x57 + number

-- two digits of base 16 for each byte
abbrev pub hex_text : List ℕ → List ℕ
hex_text bytes = flat_map (λ byte. hex_digit (byte / 16) ∷ (hex_digit (byte % 16) ∷ [])) bytes

abbrev pub summary_text : (seed size puts gets : ℕ) → (digest : List ℕ) → List ℕ
summary_text seed size puts gets digest =
    codes "gen " ++ decimal seed ++ codes " " ++ decimal size
    ++ codes "\nputs " ++ decimal puts ++ codes "\ngets " ++ decimal gets
    ++ codes "\ndigest " ++ hex_text digest ++ codes "\n"

-- the summary of the workers' replies
pub record IsSummary (seed size : ℕ) (workers : List Worker) (replies : Replies)
    (text : List ℕ) : Type 0 where
  pub digest : List ℕ
  pub over : IsDigest (objects_of workers replies) digest
  pub text_is : text ≡ summary_text seed size (count_puts replies) (count_gets replies) digest

-- it was written; or the sink failed behind a prefix of it; or memory lacked to make it
abbrev pub WritesSummary : (seed size : ℕ) → List Worker → Replies
    → (held now : Option (List ℕ)) → (faults count : ℕ) → Result (Unit {0}) WriteNo → Type 0
WritesSummary seed size workers replies held now faults count (Ok done) =
    (text : List ℕ) × IsSummary seed size workers replies text × Appends held now text
WritesSummary seed size workers replies held now faults count (Err write.Failed) =
    ((text : List ℕ) × IsSummary seed size workers replies text × AppendsFront held now text)
    × Rose faults count
WritesSummary seed size workers replies held now faults count (Err write.NoMemory) =
    Keeps held now
