-- The definitions that public contracts and laws name.
pub mod Checks
pub mod Needs
pub mod ReplicaLaws
pub mod Replicas
pub mod Starts
pub mod inner
