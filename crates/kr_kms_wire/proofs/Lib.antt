-- Lemmas of this crate.
pub mod Lines
pub mod ReadBack
pub mod Shapes
