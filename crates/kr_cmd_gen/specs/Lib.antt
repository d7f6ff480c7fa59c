-- The definitions that contracts cite.
pub mod FullLoads
pub mod GeneratedLoads
pub mod Laws
pub mod LoadHeadlines
pub mod LoadReadings
pub mod WrongLoads
pub mod inner
