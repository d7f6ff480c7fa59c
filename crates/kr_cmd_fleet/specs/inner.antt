-- The definitions of inner contracts.
pub mod Beginnings
pub mod CrewRuns
pub mod Crews
pub mod FleetOutcomes
pub mod Outfits
pub mod Plans
pub mod Readings
pub mod Workings
