-- Lemmas.
mod Draws
mod Endings
mod Filling
mod FullReplies
pub mod FullRuns
mod Gathering
mod Joining
mod Keeping
pub mod KeptPuts
mod LineParts
mod LoadContents
mod LoadHistories
pub mod LoadLines
mod LoadReplies
mod LoadSeats
mod LoadTexts
mod OneListing
mod PutParts
pub mod Ruling
mod RunParts
pub mod Streaming
