-- What the proofs of several functions cite.
mod Literals
mod Whole
mod Halves
mod Nearby
