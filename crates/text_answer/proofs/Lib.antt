-- What the proofs of several functions, and of other crates, use.
pub mod RowLaws
