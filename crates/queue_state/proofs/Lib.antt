-- What the proofs of several functions use.
mod ClearLaws
pub mod ReadyLaws
pub mod SlabLaws
pub mod StruckLaws
