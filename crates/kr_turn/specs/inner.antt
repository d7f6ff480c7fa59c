-- What inner contracts alone name.
pub mod Tokens
pub mod Rule
pub mod Steps
pub mod Endings
