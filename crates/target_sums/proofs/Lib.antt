-- What the proofs of several functions use.
mod BetweenLaws
mod CellLaws
mod LineLaws
pub mod SumsLaws
