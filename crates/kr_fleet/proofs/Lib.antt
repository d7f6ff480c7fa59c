-- The lemmas of kr_fleet: of what may be asked, of reading, writing, loading and refreshing.
pub mod AgreeingLoads
pub mod AgreeingReads
pub mod Allowed
pub mod Asked
pub mod Bare
pub mod Beginning
pub mod LoadAnswers
pub mod Closing
pub mod Finding
pub mod Putting
mod Quiet
pub mod ReadTalks
pub mod RenewTalks
pub mod Renewed
pub mod Renewing
pub mod Single
pub mod Spending
