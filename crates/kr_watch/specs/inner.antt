-- What serves inner contracts.
pub mod ToldEffects
pub mod Keeping
pub mod Keyed
