-- Lemmas.
pub mod Xors
pub mod FirstBlocks
pub mod Paddings
pub mod Unpaddings
pub mod Chains
pub mod Opened
pub mod Remainders
pub mod Groups
pub mod Hashes
pub mod Opening
pub mod Streams
pub mod Sealed
pub mod BlockBits
pub mod BlockSums
pub mod Numbers
pub mod Counters
pub mod Squares
