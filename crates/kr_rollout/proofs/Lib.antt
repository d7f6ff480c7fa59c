-- The lemmas of kr_rollout: of a core and its opening, its steps and answers.
pub mod Revisions
pub mod Holders
pub mod Keeping
pub mod Serving
pub mod Appending
pub mod Holdings
pub mod Beginning
pub mod Findings
pub mod Storing
pub mod Replacing
pub mod Refusing
pub mod Budgets
pub mod Changing
pub mod Growing
pub mod Reloading
pub mod Writers
