-- What the proofs of several functions use.
mod AgreementLaws
pub mod KindLaws
mod ReplayLaws
mod SolverAgreementLaws
