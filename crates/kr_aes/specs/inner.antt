-- Definitions that serve inner contracts alone.
pub mod Columns
pub mod TwoRounds
