-- What the proofs of several functions use.
pub mod CheckLaws
pub mod EachLaws
pub mod GridLaws
pub mod InsideLaws
mod OrderFacts
pub mod Samples
mod SizeFour
pub mod SizeLaws
pub mod StridedLaws
mod UnitFacts
pub mod UnitLaws
