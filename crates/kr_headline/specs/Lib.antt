-- The headline, and the laws on it.
pub mod Values
pub mod Sources
pub mod Outside
pub mod Headline
pub mod Fleets
pub mod Ties
pub mod Consequences
pub mod WrongPages
pub mod WrongSeals
pub mod WrongSteps
pub mod Laws
