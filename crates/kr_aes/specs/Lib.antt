-- The definitions that the contracts cite, and under `inner` those of inner contracts alone.
pub mod Field
pub mod Cipher
pub mod KeyExpansion
pub mod InverseCipher
pub mod EquivalentInverse
pub mod Begun
pub mod inner
