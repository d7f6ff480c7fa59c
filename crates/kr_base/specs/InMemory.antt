-- Objects in memory in the place of those of the outside: which of their calls fail, and what they
-- hold.
use Rattle.std.specs.Prelude.{◌≡◌, ℕ, ◌+◌, ◌-◌, ◌/◌, ◌^◌, ◌⊎◌, ◌↔◌, min, Bool, List, Contains, Result, IsErr, is_err, if◌then◌else◌}
use Rattle.kr_base.specs.Numbering.{next_number}

-- the numbers of the calls that fail, from 1; how many calls were made, and how many of them failed
pub record Calls : Type 0 where
  pub fails : List ℕ
  pub made : ℕ
  pub faults : ℕ

-- the number of the next call is that of a failing one
abbrev pub IsListed : Calls → Type 0
IsListed calls = Contains calls.fails (next_number calls.made)

-- one more call was made, and it didn't fail
abbrev pub after_call : Calls → Calls
after_call calls = record calls { made = next_number calls.made }

-- one more call was made, and it failed
abbrev pub after_fault : Calls → Calls
after_fault calls = record calls {
  made = next_number calls.made;
  faults = next_number calls.faults;
}

-- one more call was made: it failed exactly where its number is listed or it can't be served, and
-- then it counts as a fault
pub record Makes {T E : Type 0} (old new : Calls) (Unserved : Type 0) (result : Result T E)
    : Type 0 where
  pub fails : new.fails ≡ old.fails
  pub made : new.made ≡ next_number old.made
  pub failed : IsErr result ↔ (IsListed old ⊎ Unserved)
  pub faults : new.faults ≡ (if is_err result then next_number old.faults else old.faults)

-- a source or a dice with the bytes that are left
pub record InputState : Type 0 where
  pub bytes : List ℕ
  pub calls : Calls

-- a sink with the bytes that it took, and the bytes that it has room for in all
pub record OutputState : Type 0 where
  pub bytes : List ℕ
  pub room : ℕ
  pub calls : Calls

-- a tape with the bytes that it holds, the bytes that it has room for in all, its calls that read and
-- that write, and those that settle it
pub record TapeState : Type 0 where
  pub bytes : List ℕ
  pub room : ℕ
  pub reads : Calls
  pub writes : Calls
  pub settles : Calls

-- how many of its calls failed in all, up to the greatest number
abbrev pub faults_of : TapeState → ℕ
faults_of tape =
    min (tape.reads.faults + tape.writes.faults + tape.settles.faults) (2 ^ 64 - 1)

-- how many bytes a write that failed has left at its place: none where there is no room for all of
-- them, else half of them
abbrev pub left_by_fault : ℕ → Bool → ℕ
left_by_fault length above = if above then 0 else length / 2
