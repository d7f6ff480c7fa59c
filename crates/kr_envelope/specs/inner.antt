-- Definitions that serve inner contracts alone.
pub mod Parting
pub mod Taking
pub mod Reading
