-- Lemmas.
pub mod Counts
mod Written
