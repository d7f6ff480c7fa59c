-- The definitions that contracts name.
pub mod Lines
pub mod Keys
pub mod Seats
pub mod inner
