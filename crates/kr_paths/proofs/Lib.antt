-- The lemmas that the answers cite.
pub mod Orders
pub mod Joins
pub mod Searches
pub mod Nexts
