-- The definitions that the contracts cite.
pub mod Pool
pub mod Lending
