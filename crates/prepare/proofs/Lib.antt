-- What the proofs of several functions use.
mod Begun
mod Held
mod PrepareLaws
mod Started
