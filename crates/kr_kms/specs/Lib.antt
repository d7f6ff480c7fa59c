-- The definitions that contracts name.
pub mod Cache
pub mod Calls
pub mod Exchanges
pub mod Health
pub mod Laws
pub mod Limits
pub mod MemWorld
pub mod Opens
pub mod Outside
pub mod Seeds
pub mod Table
pub mod inner
