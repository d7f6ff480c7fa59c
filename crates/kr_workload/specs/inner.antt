-- Definitions that serve inner contracts alone.
pub mod Listing
pub mod Refusing
pub mod Standing
