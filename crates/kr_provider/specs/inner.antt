-- Definitions that inner contracts alone cite.
pub mod Bare
pub mod Making
pub mod Scan
pub mod Sources
pub mod Stack
