-- The definitions that contracts cite.
pub mod Causes
pub mod FirstItems
pub mod FleetFiles
pub mod FleetReadings
pub mod FleetReady
pub mod Fleets
pub mod StartExchanges
pub mod inner
