-- The definitions that public contracts and laws name; those of `inner` serve contracts inside.
pub mod Fleets
pub mod Rows
pub mod Statements
pub mod Rules
pub mod Meanings
pub mod Output
pub mod Laws
pub mod inner
