-- Lemmas.
pub mod Blocks
pub mod Pads
