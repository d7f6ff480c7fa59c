-- The definitions that public contracts and laws name.
pub mod Boards
pub mod Providers
pub mod Tables
pub mod Verdicts
pub mod Scans
pub mod Fits
pub mod Lacks
pub mod LiveFits
pub mod LackLaws
pub mod Laws
pub mod Texts
pub mod inner
