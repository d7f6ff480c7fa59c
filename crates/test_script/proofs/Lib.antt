-- Lemmas of the program.
pub mod Loops
pub mod Told
