-- Words on the bytes of a line. 9 is the tab, 32 the space, 35 is `#`.
use Rattle.std.specs.Prelude.{ℕ, zero, suc, ◌==◌, ◌||◌, Bool, true, List, [], ◌∷◌}
use Rattle.std.specs.Prelude.{Option, None, Some, if◌then◌else◌, option_and_then}

-- what stands behind this byte, where the bytes begin with it
abbrev pub behind : ℕ → List ℕ → Option (List ℕ)
behind c [] = None
behind c (b ∷ bs) = if b == c then Some bs else None

-- what stands behind three of this byte
abbrev pub behind_three : ℕ → List ℕ → Option (List ℕ)
behind_three c line = option_and_then (behind c) (option_and_then (behind c) (behind c line))

-- so many spaces
abbrev pub spaces : ℕ → List ℕ
spaces zero = []
spaces (suc n) = 32 ∷ spaces n

-- a space or a tab
abbrev pub is_blank : ℕ → Bool
is_blank b = b == 32 || b == 9

-- the bytes without the spaces that they begin with
abbrev pub skip : List ℕ → List ℕ
skip [] = []
skip (b ∷ bs) = if b == 32 then skip bs else b ∷ bs

-- nothing or a comment, where spaces or nothing stand before
abbrev pub over : List ℕ → Bool
over [] = true
over (b ∷ bs) = b == 35

-- a line with nothing, or nothing but a comment
abbrev pub is_empty : List ℕ → Bool
is_empty line = over (skip line)
