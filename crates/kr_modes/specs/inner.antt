-- Definitions that serve contracts inside this crate alone: no public clause names them.
pub mod Opened
pub mod Streamed
pub mod Tables
