-- The lemmas that the answers cite.
pub mod FirstShown
pub mod PageTexts
pub mod SeededItems
pub mod WatchEnds
pub mod WatchPages
