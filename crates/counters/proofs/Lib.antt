-- What the proofs of several functions use.
pub mod Closure
pub mod CounterLaws
pub mod Families
pub mod Lines
