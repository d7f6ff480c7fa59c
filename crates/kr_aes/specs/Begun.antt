-- Blocks that differ in their last byte alone.
use Rattle.std.specs.Prelude.{ℕ, List}

-- the words of a schedule, and the first 15 bytes of all the blocks
pub record BegunState : Type 0 where
  pub words : List ℕ
  pub front : List ℕ
