-- The lemmas that the answers cite.
pub mod Benches
pub mod Hands
pub mod Starting
