-- What the proofs of several functions use.
pub mod MaskLaws
pub mod LowestLaws
pub mod WalkLaws
pub mod RunMask
