-- Lemmas of this crate.
pub mod Merged
pub mod ClassLists
pub mod Passing
pub mod Apart
pub mod Counting
pub mod Keeping
pub mod Steps
pub mod Planned
