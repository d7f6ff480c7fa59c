-- Definitions of contracts inside: the reader of a line, step by step, and the open nodes.
pub mod Stops
pub mod ScalarReading
pub mod LineReading
pub mod TextReading
pub mod Seen
pub mod Gives
pub mod Open
pub mod Frames
pub mod Standing
pub mod Puts
pub mod Adds
pub mod Progress
