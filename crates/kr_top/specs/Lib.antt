-- The definitions that contracts cite.
pub mod Asked
pub mod Run
pub mod inner
