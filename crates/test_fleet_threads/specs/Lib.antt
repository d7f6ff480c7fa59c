-- The definitions of the tests.
pub mod NewCores
pub mod Ready
