-- Definitions that serve inner contracts alone.
pub mod Exchange
pub mod Nibbles
pub mod Planes
