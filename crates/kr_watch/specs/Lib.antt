-- The definitions that public contracts and laws name.
pub mod Shown
pub mod Changes
pub mod Pages
pub mod Watches
pub mod Noting
pub mod Laws
pub mod inner
