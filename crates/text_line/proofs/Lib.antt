-- What the proofs of several functions use.
mod LineLaws
pub mod PuzzleTextLaws
