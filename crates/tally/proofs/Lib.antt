-- What the proofs of several functions use.
pub mod TallyLaws
pub mod WayLaws
pub mod ListLaws
