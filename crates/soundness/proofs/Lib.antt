-- What the proofs of several functions use.
pub mod GridValues
pub mod GridStable
pub mod MarkLaws
pub mod Measures
pub mod SameLaws
pub mod StableLaws
pub mod Taken
