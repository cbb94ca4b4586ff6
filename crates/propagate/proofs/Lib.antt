-- What the proofs of several functions use.
pub mod FlowLaws
mod Loop
mod Rest
mod Supports
mod UpdateLaws
