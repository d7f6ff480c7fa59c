-- Definitions that only contracts of the crate's own functions name.
pub mod Keeping
pub mod Wrapping
