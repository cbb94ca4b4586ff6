-- What the proofs of several functions use.
mod AdvanceLaws
mod BranchLaws
mod SearchLaws
