-- The definitions of inner contracts.
pub mod Judging
pub mod Migrating
pub mod Verifying
