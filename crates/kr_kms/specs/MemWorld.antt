-- What a world in memory tells, and what its calls answer.
use Rattle.std.specs.Prelude.{◌≡◌, ℕ, ◌<◌, ◌≤◌, ◌⊎◌, Bool, true, false, find, position, count_by, List, length, option_and_then, Option, None, Some, IsSome, Result, Ok, Err, []}
use Rattle.std.specs.List.{remove}
use Rattle.std.specs.Option.{option_map, option_map_or}
use Rattle.std.specs.Str.{bytes_eq}
use Rattle.std.specs.Map.{lookup}
use Rattle.kr_base.specs.InMemory.{InputState, TapeState, faults_of}
use Rattle.kr_base.specs.Numbering.{next_number}
use Rattle.kr_kms.specs.Calls.{Link}
use Rattle.kr_kms.specs.Outside.{Objects, Outside, same_seat, same_name, same_link}
use Rattle.kr_kms.specs.declared.file_faults.FileFaults.{FileFaults}
use Rattle.kr_kms.specs.declared.world.FileNo.{FileNo}
use Rattle.kr_kms.specs.declared.world.FileNo.TheVariants.{Absent, TooLong, Failed, NoMemory}

-- the first file of the name
abbrev pub file_of : List (List ℕ × List ℕ) → List ℕ → Option (List ℕ)
file_of files name = lookup (bytes_eq name) files

-- ---- objects by their keys

-- the objects that are here, and the keys of those that are out
pub record ShelfState (K T : Type 0) : Type 0 where
  pub items : List T
  pub out : List K

-- the first object of the key, its place, and the others without it
abbrev pub first_object : {K T : Type 0} → (same : K → K → Bool) (key_of : T → K) → List T → K
    → Option T
first_object same key_of items key = find (λ item. same (key_of item) key) items

abbrev pub place_of : {K T : Type 0} → (same : K → K → Bool) (key_of : T → K) → List T → K
    → Option ℕ
place_of same key_of items key = position (λ item. same (key_of item) key) items

abbrev pub without_first : {K T : Type 0} → (same : K → K → Bool) (key_of : T → K) → List T → K
    → List T
without_first same key_of items key =
    option_map_or (remove items) (place_of same key_of items key) items

-- what the first object of a key tells and counts; how many of a key are out. What was handed out
-- isn't told
abbrev pub objects_by : {K T V : Type 0} → (same : K → K → Bool) (key_of : T → K)
    (told : Option T → V) (count : T → ℕ) → ShelfState K T → Objects K V
objects_by same key_of told count shelf = record {
  told = λ key. told (first_object same key_of shelf.items key);
  faults = λ key. option_map_or count (first_object same key_of shelf.items key) 0;
  out = λ key. count_by (λ other. same other key) shelf.out;
  handed = None;
}

-- ---- random sources, tapes and links

abbrev pub DiceShelf : Type 0
DiceShelf = ShelfState ℕ (ℕ × InputState)

abbrev pub TapeShelf : Type 0
TapeShelf = ShelfState (List ℕ) (List ℕ × TapeState)

abbrev pub LinkShelf : Type 0 → Type 0
LinkShelf L = ShelfState (ℕ × List ℕ) (ℕ × L)

abbrev pub dice_seat : ℕ × InputState → ℕ
dice_seat entry = entry.0

abbrev pub tape_name : List ℕ × TapeState → List ℕ
tape_name entry = entry.0

-- a link's plugin is its own name
abbrev pub link_key : {L : Type 0} → (L → Link) → ℕ × L → ℕ × List ℕ
link_key link entry = (entry.0, (link entry.1).name)

abbrev pub first_dice : List (ℕ × InputState) → ℕ → Option (ℕ × InputState)
first_dice items seat = first_object same_seat dice_seat items seat

abbrev pub first_tape : List (List ℕ × TapeState) → List ℕ → Option (List ℕ × TapeState)
first_tape items name = first_object same_name tape_name items name

abbrev pub first_link : {L : Type 0} → (L → Link) → List (ℕ × L) → (seat : ℕ) (plugin : List ℕ)
    → Option (ℕ × L)
first_link link items seat plugin = first_object same_link (link_key link) items (seat, plugin)

-- no load fails; it doesn't tell what it was asked for
abbrev pub told_by : {L : Type 0} → (link : L → Link) (files : List (List ℕ × List ℕ))
    (tapes : TapeShelf) (dice : DiceShelf) (links : LinkShelf L) (faults : FileFaults) → Outside
told_by link files tapes dice links faults = record {
  file = λ name. Some (file_of files name);
  asked = None;
  faults = faults;
  dice = objects_by same_seat dice_seat (option_map (λ entry. entry.1.bytes))
      (λ entry. entry.1.calls.faults) dice;
  tapes = objects_by same_name tape_name (λ first. Some (option_map (λ entry. entry.1.bytes) first))
      (λ entry. faults_of entry.1) tapes;
  links = objects_by same_link (link_key link)
      (option_and_then (λ entry. (link entry.1).status)) (λ entry. (link entry.1).count) links;
}

-- ---- what its calls answer

-- the file is given where it is there and within the limit, as far as there is memory for it
abbrev pub GivesFile : Option (List ℕ) → ℕ → Result (List ℕ) FileNo → Type 0
GivesFile file limit (Ok bytes) = (file ≡ Some bytes) × (length bytes ≤ limit)
GivesFile file limit (Err Absent) = file ≡ None
GivesFile file limit (Err TooLong) =
    (bytes : List ℕ) × (limit < length bytes) × (file ≡ Some bytes)
GivesFile file limit (Err Failed) = ⊥
GivesFile file limit (Err NoMemory) =
    (bytes : List ℕ) × (length bytes ≤ limit) × (file ≡ Some bytes)

-- the first object of its key is given where there is one, as far as there is memory for it; where
-- there is none, that counts as a fault
abbrev pub GivesFirst : {T : Type 0} → Option T → ℕ → Result T FileNo → ℕ → Type 0
GivesFirst first faults (Ok object) after = (first ≡ Some object) × (after ≡ faults)
GivesFirst first faults (Err Absent) after = ⊥
GivesFirst first faults (Err TooLong) after = ⊥
GivesFirst first faults (Err Failed) after = (first ≡ None) × (after ≡ next_number faults)
GivesFirst first faults (Err NoMemory) after = IsSome first × (after ≡ faults)

-- a new tape, empty and with the world's room, none of whose calls was made or fails
abbrev pub new_tape : ℕ → TapeState
new_tape room = record {
  bytes = [];
  room = room;
  reads = record { fails = []; made = 0; faults = 0 };
  writes = record { fails = []; made = 0; faults = 0 };
  settles = record { fails = []; made = 0; faults = 0 };
}

-- a tape that is here is given, and else a new one where it is to be made; while one of the name is
-- out, a call fails
abbrev pub GivesTape : (first : Option TapeState) (out : ℕ) (make : Bool) (room faults : ℕ)
    → Result TapeState FileNo → (after : ℕ) → Type 0
GivesTape first out make room faults (Ok tape) after =
    (out ≡ 0) × ((first ≡ Some tape) ⊎ ((first ≡ None) × (make ≡ true) × (tape ≡ new_tape room)))
    × (after ≡ faults)
GivesTape first out make room faults (Err Absent) after =
    (out ≡ 0) × (first ≡ None) × (make ≡ false) × (after ≡ faults)
GivesTape first out make room faults (Err TooLong) after = ⊥
GivesTape first out make room faults (Err Failed) after =
    (0 < out) × (after ≡ next_number faults)
GivesTape first out make room faults (Err NoMemory) after =
    (out ≡ 0) × (IsSome first ⊎ (make ≡ true)) × (after ≡ faults)
