-- Tests that decide `Live`, `Closed` and `Stable`, and facts computed with them.
pub mod Decides
pub mod ClosedTest
pub mod ClosedFacts
mod StableFacts
mod TableFacts
