-- What the proofs of several functions use.
pub mod BitLaws
pub mod SumLaws
