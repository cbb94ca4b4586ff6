-- What the proofs of several functions use.
mod LentLaws
mod NumberLaws
