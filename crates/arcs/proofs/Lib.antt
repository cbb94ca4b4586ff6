-- What the proofs of several functions use.
pub mod AliveLaws
mod ArcLaws
mod DeathLaws
mod DigitLaws
pub mod KillLaws
pub mod LineLaws
mod PrunedLaws
mod RemoveLaws
mod SunkLaws
mod SweepLaws
mod SweepSteps
mod TestLaws
mod WalkLaws
