-- The lemmas that the answers cite.
pub mod Asked
pub mod FleetAsked
pub mod LoadAsked
pub mod NoneAsked
pub mod OneCommand
pub mod Pieces
pub mod VisibleTexts
pub mod WatchAsked
