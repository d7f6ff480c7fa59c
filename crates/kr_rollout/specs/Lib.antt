-- The definitions that public contracts and laws name.
pub mod Entries
pub mod Written
pub mod States
pub mod Openings
pub mod Fits
pub mod Answers
pub mod Writes
pub mod Steps
pub mod Histories
pub mod Callers
pub mod Cores
pub mod inner
pub mod Laws
pub mod Judgements
pub mod CoreStarts
