-- The definitions that contracts name.
pub mod WatchTexts
pub mod Watchings
pub mod inner
