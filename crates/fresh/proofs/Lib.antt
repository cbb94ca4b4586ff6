-- What the proofs of several functions use.
pub mod FillLaws
pub mod FreshLaws
mod LineMasks
