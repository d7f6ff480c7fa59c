-- Bytes that are read and written at places. What a tape doesn't tell stays untold.
use Rattle.std.specs.Prelude.{◌≡◌, ℕ, ◌+◌, ◌-◌, min, List, ◌++◌, length, take, drop, Option, IfSome, Result, MatchResult}
use Rattle.std.specs.Option.{option_map}

-- the bytes with these at the place; those before it and behind them stay
abbrev pub with_bytes_at : List ℕ → ℕ → List ℕ → List ℕ
with_bytes_at held at bytes = take at held ++ (bytes ++ drop (at + length bytes) held)

-- n bytes were read from the place to the front of the buffer: as many as fit and are there
abbrev pub ReadsAt : Option (List ℕ) → ℕ → ℕ → List ℕ → Type 0
ReadsAt told at n into = IfSome told (λ bytes.
    (n ≡ min (length into) (length bytes - at)) × (take n into ≡ take n (drop at bytes)))

-- the bytes before the place stay, and the rest is any bytes
abbrev pub KeepsFront : Option (List ℕ) → Option (List ℕ) → ℕ → Type 0
KeepsFront old new at = (rest : List ℕ) × (new ≡ option_map (λ bytes. take at bytes ++ rest) old)

-- the bytes stand at the place; after a fault only those before it are known
abbrev pub PutsAt : {T E : Type 0} → Option (List ℕ) → Option (List ℕ) → ℕ → List ℕ → Result T E
    → Type 0
PutsAt old new at bytes result = MatchResult result
    (λ _. new ≡ option_map (λ held. with_bytes_at held at bytes) old)
    (λ _. KeepsFront old new at)

-- the tape ends at the length; after a fault only the bytes before it are known
abbrev pub Cuts : {T E : Type 0} → Option (List ℕ) → Option (List ℕ) → ℕ → Result T E → Type 0
Cuts old new len result = MatchResult result
    (λ _. new ≡ option_map (λ bytes. take len bytes) old)
    (λ _. KeepsFront old new len)
