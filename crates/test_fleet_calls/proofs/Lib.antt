-- The lemmas that the answers cite.
mod Beginning
pub mod Calling
mod Lists
mod OpeningLists
