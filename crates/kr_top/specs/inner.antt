-- The definitions of inner contracts.
pub mod Parts
pub mod Team
