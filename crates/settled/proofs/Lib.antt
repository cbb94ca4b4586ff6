-- What the proofs of several functions use.
pub mod EmptyLaws
mod LeftLaws
pub mod NoStall
pub mod ReadLaws
pub mod SettledTable
