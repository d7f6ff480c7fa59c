-- Room for secrets, behind their use.
use Rattle.std.specs.Prelude.{◌≡◌, ℕ, List, All}

-- nothing of what was read stands in the room
abbrev pub IsWiped : List ℕ → Type 0
IsWiped bytes = All (λ byte. byte ≡ 0) bytes
