-- The lemmas that the answers and the laws cite.
pub mod Answering
pub mod Blocks
pub mod Bodies
pub mod Counts
pub mod Halves
pub mod Lines
pub mod Loops
pub mod Nexts
pub mod Opening
pub mod Pieces
pub mod Steps
