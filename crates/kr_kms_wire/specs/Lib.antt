-- The definitions that contracts name.
pub mod Members
pub mod Replies
pub mod Requests
pub mod inner
