-- Lemmas that several proofs share.
pub mod Parts
pub mod Steps
pub mod Fillings
pub mod Indexes
pub mod Loading
pub mod Refusals
pub mod Written
pub mod Places
pub mod Shared
pub mod Entries
pub mod Listings
pub mod Above
pub mod Lookahead
pub mod OneReading
pub mod Answered
