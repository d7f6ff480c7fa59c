-- The lemmas of kr_opening: of its board, and of what is kept.
pub mod Boarding
pub mod LastRows
pub mod Needing
pub mod Passing
pub mod ReplicasJudged
pub mod Sharing
pub mod Taking
pub mod Walking
