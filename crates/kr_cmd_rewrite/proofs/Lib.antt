-- The lemmas that the answers cite.
pub mod Closing
pub mod CutShorts
pub mod DriveEnds
pub mod DriveFaults
pub mod DriveSteps
pub mod Driven
pub mod DroveAll
pub mod DroveHeard
pub mod HeardRows
pub mod LiveRows
pub mod LoneCallers
pub mod Reported
pub mod RowCuts
pub mod RowDrives
pub mod Said
pub mod Started
