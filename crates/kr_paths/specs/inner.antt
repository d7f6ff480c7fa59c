-- What inner contracts name.
pub mod Parts
