-- The lemmas of what is played on a board.
pub mod Plays
