-- The definitions that contracts cite.
pub mod Command
pub mod FleetAsked
pub mod LoadAsked
pub mod Message
pub mod Receipts
pub mod Reports
pub mod Texts
pub mod WatchAsked
pub mod inner
