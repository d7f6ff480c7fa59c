-- The definitions that public contracts and laws name.
pub mod Rewrites
pub mod Drives
pub mod DriveExchanges
pub mod DriveLaws
pub mod inner
