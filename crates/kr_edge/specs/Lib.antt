-- The definitions that contracts name.
pub mod Lines
pub mod Links
pub mod Opened
pub mod Placed
pub mod Plugins
pub mod RealWorld
pub mod Stores
pub mod SystemCalls
pub mod Wiped
pub mod inner
