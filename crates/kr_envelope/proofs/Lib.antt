-- The lemmas that the answers and the laws cite.
pub mod Prefixing
pub mod Varints
pub mod Fields
pub mod Spellings
pub mod Items
pub mod Objects
pub mod Numbers
pub mod RoundTrip
pub mod OneReading
pub mod Readable
pub mod Sizes
