-- Lemmas of this crate.
pub mod Drawn
pub mod Fetching
pub mod KeptSeeds
pub mod Keys
pub mod Lent
pub mod LentOut
pub mod Linked
pub mod MadeTapes
pub mod Making
pub mod Masks
pub mod Opening
