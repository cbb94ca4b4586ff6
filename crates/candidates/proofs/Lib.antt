-- Facts computed from `Remaining`.
mod RemainingFacts
mod RemainingLaws
mod SameClosed
