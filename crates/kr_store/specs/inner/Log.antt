-- The end of a store's file, where rows are appended.
use Rattle.std.specs.Prelude.{◌≡◌, ℕ, ◌+◌, ◌≤◌, Bool, true, false, List, ◌++◌, length, take, Option, IfSome, Result, Ok, Err}
use Rattle.std.specs.Option.{option_map}
use Rattle.kr_base.specs.Tapes.{KeepsFront}

-- what the tape tells and how often it failed; where the file ends, and whether a write has failed
-- since the last one that was done
pub record Tail : Type 0 where
  pub told : Option (List ℕ)
  pub count : ℕ
  pub end : ℕ
  pub torn : Bool

-- the tape holds the file, and ends with it unless a write has failed
abbrev pub HoldsEnd : Option (List ℕ) → ℕ → Bool → Type 0
HoldsEnd told end torn =
    IfSome told (λ bytes. (end ≤ length bytes) × (torn ≡ false → end ≡ length bytes))

-- a write failed: the file is as it was, and behind its end is anything
abbrev pub Tears : Tail → Tail → Type 0
Tears old new =
    KeepsFront old.told new.told old.end × (new.end ≡ old.end) × (new.torn ≡ true)

-- the tape ends with the file
abbrev pub Readies : {T E : Type 0} → Tail → Tail → Result T E → Type 0
Readies old new (Ok x) =
    (new.told ≡ option_map (λ held. take old.end held) old.told) × (new.end ≡ old.end)
    × (new.torn ≡ false)
Readies old new (Err fault) = Tears old new

-- bytes were appended to the file
abbrev pub Extends : {T E : Type 0} → Tail → Tail → List ℕ → Result T E → Type 0
Extends old new bytes (Ok x) =
    (new.told ≡ option_map (λ held. take old.end held ++ bytes) old.told)
    × (new.end ≡ old.end + length bytes) × (new.torn ≡ false)
Extends old new bytes (Err fault) = Tears old new
