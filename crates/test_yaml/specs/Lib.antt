-- The definitions that contracts name.
pub mod Answers
pub mod TreeText
