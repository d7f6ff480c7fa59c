-- The definitions that contracts cite: those of inner contracts stand in inner.
pub mod Rows
pub mod File
pub mod Breaches
pub mod Stores
pub mod inner
pub mod Laws
