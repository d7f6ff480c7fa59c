-- The lemmas of kr_rewrite: of one step, of a row that is replaced, and of a whole drive.
pub mod Agreeing
pub mod BetweenSteps
pub mod Covering
pub mod DriveTalks
pub mod Growing
pub mod Looking
mod OneEntry
pub mod Options
mod Quiet
pub mod Replacing
pub mod Rewriting
pub mod RowTalks
pub mod Walking
pub mod Spending
pub mod Shortness
