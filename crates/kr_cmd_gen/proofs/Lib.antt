-- The lemmas that the answers cite.
pub mod FullLoads
pub mod Generating
pub mod LoadHeads
pub mod LoadPlans
pub mod LoadReadings
pub mod LoadRuns
pub mod LoadSettled
pub mod Undrawn
pub mod WrongLoads
