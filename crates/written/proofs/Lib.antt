-- What the proofs of several functions use.
mod CellLaws
pub mod MaskLaws
mod RowLaws
