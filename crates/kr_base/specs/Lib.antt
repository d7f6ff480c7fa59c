-- The definitions that contracts name.
pub mod Numbering
pub mod Faults
pub mod Walks
pub mod Told
pub mod Streams
pub mod Tapes
pub mod Lines
pub mod Pairs
pub mod Limits
pub mod Rules
pub mod InMemory
pub mod Visible
pub mod formers
pub mod inner
