-- All generations as they are kept.
use Rattle.std.specs.Prelude.{ℕ, false, List}
use Rattle.kr_judge.specs.Boards.{GenerationState}

-- all generations, and for how many there is room
pub record GenerationsState : Type 0 where
  pub generations : List GenerationState
  pub room : ℕ

abbrev pub uncurrent : GenerationState → GenerationState
uncurrent generation = record generation { current = false }
