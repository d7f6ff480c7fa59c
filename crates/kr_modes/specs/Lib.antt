-- The definitions.
pub mod Blocks
pub mod Padding
pub mod Cbc
pub mod Ghash
pub mod Gcm
pub mod inner
