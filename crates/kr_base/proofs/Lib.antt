-- The lemmas that the answers cite.
pub mod Counting
pub mod Labels
pub mod Pieces
pub mod Places
pub mod RuleTests
pub mod SortedPairs
pub mod Transferring
pub mod Walks
