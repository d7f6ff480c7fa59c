-- The lemmas that the answers cite.
pub mod Performing
pub mod Promises
pub mod Reading
