-- The definitions of inner contracts.
pub mod Asking
pub mod FleetAnswers
pub mod LoadAnswers
pub mod Reading
pub mod Sayings
pub mod WatchAnswers
