-- The definitions that contracts name.
pub mod Paths
pub mod inner
