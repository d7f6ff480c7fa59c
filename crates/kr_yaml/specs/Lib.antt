-- The definitions that public contracts and laws name; those of `inner` serve contracts inside.
pub mod Data
pub mod Shown
pub mod Characters
pub mod Bytes
pub mod Written
pub mod Lines
pub mod Texts
pub mod Forms
pub mod Reads
pub mod Laws
pub mod inner
