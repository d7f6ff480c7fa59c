-- Definitions that serve inner contracts alone.
pub mod Drafts
pub mod Reading
pub mod Writing
