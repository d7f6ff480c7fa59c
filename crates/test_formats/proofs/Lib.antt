-- The lemmas that the answers cite.
mod Lent
