-- What the proofs of several functions use.
pub mod ChoiceLaws
mod OpenLaws
mod LeadLaws
