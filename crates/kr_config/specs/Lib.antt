-- The definitions of kr_config, in reading order.
pub mod Refusals
pub mod Patterns
pub mod Providers
pub mod Kept
pub mod Lists
pub mod Classes
pub mod Nexts
pub mod Walk
pub mod Yaml
pub mod Meanings
pub mod ClassEntries
pub mod Texts
pub mod Laws
pub mod inner
