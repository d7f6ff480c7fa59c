-- Lemmas: of words and lines, of what rows write, and of what is read.
pub mod Cuts
pub mod Places
pub mod Lists
pub mod Keys
pub mod Nexts
pub mod Sound
pub mod Complete
pub mod Going
pub mod Meant
pub mod OneAnswer
pub mod Seats
pub mod Spoken
pub mod Apart
