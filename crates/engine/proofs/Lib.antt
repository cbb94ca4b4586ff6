-- What the proofs of several functions use.
pub mod CountLaws
pub mod SolveLaws
