-- The laws and what they speak of.
pub mod PlannedStates
pub mod PlannedLaws
pub mod Rounds
pub mod PassLaws
pub mod Settled
pub mod LiveStates
pub mod LivePlans
pub mod WholePlans
pub mod MovesDone
pub mod Rewritten
pub mod Refreshed
