-- The lemmas of kr_words.
pub mod Loops
pub mod Decimals
pub mod Commands
pub mod Spellings
pub mod Values
pub mod Meanings
pub mod ValuesAt
pub mod Given
