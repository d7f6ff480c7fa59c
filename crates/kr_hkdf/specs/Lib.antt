-- The definitions.
pub mod Hmac
pub mod Hkdf
pub mod inner
