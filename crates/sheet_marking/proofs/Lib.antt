-- What the proofs of several functions use.
mod CountLaws
mod FaultFacts
pub mod FaultLaws
mod MarkingLaws
mod SheetFacts
