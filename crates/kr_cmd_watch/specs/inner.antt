-- The definitions of inner contracts.
pub mod Followings
