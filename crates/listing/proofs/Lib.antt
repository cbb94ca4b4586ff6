-- What the proofs of several functions use.
mod AddLaws
pub mod LineLaws
mod NumberFacts
mod RaiseLaws
