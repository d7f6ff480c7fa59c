-- Definitions that only contracts of the crate's own functions name.
pub mod Shapes
pub mod Written
