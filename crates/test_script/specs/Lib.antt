-- What is printed for a line.
pub mod Answers
pub mod FleetText
