-- Lemmas.
mod OneText
