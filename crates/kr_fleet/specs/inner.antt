-- Definitions that serve inner contracts alone.
pub mod Stages
