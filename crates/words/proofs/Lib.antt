-- What the proofs of several functions use.
pub mod Arranged
pub mod CodeLaws
pub mod FillLaws
pub mod PatternLaws
pub mod SideLaws
pub mod StepLaws
pub mod WordFacts
pub mod WordLaws
