-- The lemmas of the headline.
pub mod Folds
pub mod Standing
pub mod Contents
pub mod Answering
pub mod Places
mod RowByRow
pub mod Cached
pub mod Sourced
pub mod Unsealed
pub mod Marks
pub mod Own
pub mod Published
pub mod LineAsks
pub mod HeardFaults
pub mod HeardLines
pub mod RefreshKeys
pub mod Mono
pub mod Benches
pub mod ReadBack
mod SeatRuns
pub mod Seats
pub mod Headlines
pub mod Consequences
pub mod OnlyReseals
pub mod WrongRewrites
pub mod WrongFaults
pub mod Wrong
pub mod Invented
pub mod WrongSeals
pub mod WrongSteps
pub mod CalmBenches
pub mod NoPlugins
pub mod Agreeing
