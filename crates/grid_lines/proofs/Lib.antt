-- What the proofs of several crates use.
pub mod LinesLaws
