-- The lemmas that the answers cite.
pub mod Copying
pub mod Found
pub mod Judging
pub mod LinesOfFindings
pub mod LiveRows
pub mod Loads
pub mod MigratedRows
pub mod Migrating
pub mod ReplicaLists
pub mod RowReading
pub mod ToldRows
pub mod TwoTapes
pub mod Walk
