-- Definitions that serve inner contracts alone.
pub mod Checks
