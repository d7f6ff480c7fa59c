-- The definitions that contracts name.
pub mod Prefixes
pub mod Wire
pub mod Messages
pub mod Limits
pub mod Canonical
pub mod inner
