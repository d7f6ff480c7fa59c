-- The list.
pub mod List
