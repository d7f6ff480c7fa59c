-- Lemmas of the tests.
pub mod Bare
pub mod Beginning
pub mod Leaving
pub mod Naming
pub mod Reading
