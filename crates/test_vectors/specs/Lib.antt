-- The definitions.
pub mod Answers
pub mod Words
