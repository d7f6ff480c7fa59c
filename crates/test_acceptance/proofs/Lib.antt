-- Lemmas of the tests.
pub mod Gates
