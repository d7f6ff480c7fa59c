-- The definitions that inner contracts alone need.
pub mod Reads
pub mod Finds
pub mod ClassTables
pub mod ClassIndexes
pub mod Written
