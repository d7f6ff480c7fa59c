-- Definitions that serve inner contracts alone.
pub mod KeptRows
pub mod Reading
pub mod Index
pub mod Log
pub mod Store
pub mod Writing
pub mod Lending
