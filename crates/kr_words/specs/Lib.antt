-- The definitions of kr_words, in reading order.
pub mod Options
pub mod Names
pub mod Numerals
pub mod Rules
pub mod Arguments
pub mod Grammar
pub mod inner
