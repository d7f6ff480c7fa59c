-- What some events of a caller's seat add to what it sees: a part of the history.
use Rattle.std.specs.Prelude.{◌≡◌, ◌⊎◌, ℕ, ◌+◌, ◌≤◌, List, [], ◌∷◌, ◌++◌, length}
use Rattle.kr_base.specs.Lines.{of_seat}
use Rattle.kr_rollout.specs.declared.line.Did.{Did}
use Rattle.kr_rollout.specs.declared.line.Did.TheVariants.{Put}
use Rattle.kr_rollout.specs.declared.line.Gave.{Gave}
use Rattle.kr_rollout.specs.declared.line.Gave.TheVariants.{Written}
use Rattle.kr_rollout.specs.declared.opening.Entry.{Entry}
use Rattle.kr_history.specs.Acting.{Caller}
use Rattle.kr_rollout.specs.Callers.{reloads_in}
use Rattle.kr_rollout.specs.Entries.{seat_of}

-- behind what was seen stand more entries. This part are those of the seat among them, by which
-- the caller's own entries grow
pub record Adds (old : Caller) (part : List Entry) (new : Caller) : Type 0 where
  pub more : List Entry
  pub new_is : new ≡ record old {
    seen = old.seen ++ more;
    mine = old.mine ++ part;
    left = new.left;
  }
  pub own : of_seat seat_of old.seat more ≡ part
  pub left_is : new.left + length part ≡ old.left

-- the Put that an entry wrote, if it wrote one
abbrev pub put_by : Did → List Did
put_by (Put path resource plain) = Put path resource plain ∷ []
put_by did = []

abbrev pub written_put : Gave → Did → List Did
written_put (Written revision) did = put_by did
written_put gave did = []

-- the Puts that entries wrote, in their order
abbrev pub written_puts : List Entry → List Did
written_puts [] = []
written_puts (e ∷ part) = written_put e.line.gave e.line.did ++ written_puts part

-- a part of at most so many entries, of which at most so many bring a configuration, and which
-- write no Put, or just these
pub record IsPartWithin (entries reloads : ℕ) (puts : List Did) (part : List Entry) : Type 0 where
  pub few : length part ≤ entries
  pub brings_few : reloads_in part ≤ reloads
  pub puts_are : (written_puts part ≡ []) ⊎ (written_puts part ≡ puts)

-- what a caller adds is such a part
abbrev pub AddsWithin : (entries reloads : ℕ) → (puts : List Did) → (old new : Caller) → Type 0
AddsWithin entries reloads puts old new =
    (part : List Entry) × Adds old part new × IsPartWithin entries reloads puts part
