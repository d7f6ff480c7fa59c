-- Definitions that serve inner contracts alone.
pub mod Adopting
pub mod Quiet
