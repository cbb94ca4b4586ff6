-- What other crates cite, and what its own laws use.
pub mod SplitLaws
pub mod SequenceLaws
pub mod PrecedesLaws
pub mod PlaceLaws
pub mod RemainingLaws
pub mod FoundLaws
