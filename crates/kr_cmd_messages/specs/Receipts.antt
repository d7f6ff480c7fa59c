-- A sink before and after a call, and how a line was told on it.
use Rattle.std.specs.Prelude.{◌≡◌, ℕ, ◌⊎◌, List, Option}
use Rattle.std.specs.Io.KnownBytes.{Appends}
use Rattle.kr_base.specs.Faults.{Rose}
use Rattle.kr_base.specs.Streams.{AppendsFront}

-- a sink before and after a call, each with its count of faults
pub record Receipt : Type 0 where
  pub old : Option (List ℕ)
  pub new : Option (List ℕ)
  pub old_faults : ℕ
  pub new_faults : ℕ

abbrev pub receipt : (old new : Option (List ℕ)) (old_faults new_faults : ℕ) → Receipt
receipt old new old_faults new_faults =
    record { old = old; new = new; old_faults = old_faults; new_faults = new_faults }

-- the line was written to the sink and the status answered; where it can't be written, the status
-- is 4
abbrev pub Tells : List ℕ → ℕ → Receipt → ℕ → Type 0
Tells line status errors answered =
    ((answered ≡ status) × Appends errors.old errors.new line)
    ⊎ ((answered ≡ 4) × Rose errors.old_faults errors.new_faults
    × AppendsFront errors.old errors.new line)
