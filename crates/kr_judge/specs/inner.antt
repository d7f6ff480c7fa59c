-- Definitions that serve inner contracts alone.
pub mod Earliest
pub mod Indexes
pub mod Lives
pub mod Losses
pub mod Places
pub mod Views
