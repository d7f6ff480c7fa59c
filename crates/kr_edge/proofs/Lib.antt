-- The lemmas that the answers cite.
mod Asking
mod Filling
mod Lending
mod Lines
mod Loaded
mod Pieces
mod Stops
