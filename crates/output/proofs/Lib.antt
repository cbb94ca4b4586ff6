-- What the proofs of this crate and of the program `sheet` use.
pub mod ErrLaws
