-- Definitions that serve inner contracts alone.
pub mod Rollouts
pub mod Writing
pub mod Membership
pub mod RolloutStarts
pub mod Telling
