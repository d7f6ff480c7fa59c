-- The definitions that contracts cite.
pub mod Desks
pub mod Openings
