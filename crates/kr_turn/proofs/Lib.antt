-- The lemmas of kr_turn.
pub mod Orders
pub mod Stays
pub mod Keeps
pub mod Makes
pub mod Ends
pub mod Acts
pub mod Rows
