-- The definitions that contracts name.
pub mod Endings
pub mod FullLoads
pub mod KeptPuts
pub mod LoadRuns
pub mod Loads
pub mod Streams
pub mod Summaries
pub mod inner
