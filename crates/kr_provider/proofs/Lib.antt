-- The lemmas that several proofs share.
mod Behind
mod Bodies
mod Booleans
mod Filled
mod Framed
mod LinkNames
mod Serving
pub mod Lists
mod Places
pub mod Rivals
pub mod SealedReads
pub mod Sealings
pub mod Tags
pub mod SealedSizes
pub mod OneReading
mod Stacks
mod Keys
pub mod AskedLists
mod Makings
mod Marked
pub mod NameOrder
pub mod PluginOrder
pub mod InOrder
pub mod PluginNames
mod Unsealings
mod ObjectSources
mod Cached
mod SeedValues
pub mod BenchLinks
mod LinkTalks
mod LinkPlaces
mod SeedTalks
mod ReadTalks
pub mod AgreeTalks
pub mod WithoutPlugins
pub mod FollowedPages
pub mod LeftKeys
