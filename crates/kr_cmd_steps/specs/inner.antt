-- The definitions of inner contracts.
pub mod Counting
pub mod Lent
pub mod Phases
pub mod Plugins
pub mod ProgramNames
pub mod Reporting
pub mod Starts
pub mod Tapes
