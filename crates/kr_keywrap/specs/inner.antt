-- Definitions that inner contracts alone cite.
pub mod Lines
