-- The lemmas that the answers cite.
pub mod Orders
pub mod Items
pub mod Entries
pub mod ItemSteps
pub mod Following
pub mod KeptChanges
pub mod KeepSteps
pub mod NoteSteps
pub mod PageFacts
pub mod PagesTaken
pub mod ShownLaws
pub mod ShownPages
pub mod ChangeLaws
pub mod WholeRuns
