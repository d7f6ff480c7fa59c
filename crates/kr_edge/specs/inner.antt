-- Definitions that only contracts of the crate's own functions name.
pub mod Answered
pub mod Stops
