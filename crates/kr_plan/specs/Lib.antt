-- The definitions that public contracts and laws name, in reading order.
pub mod Merges
pub mod Plans
pub mod Rollouts
pub mod Laws
pub mod inner
