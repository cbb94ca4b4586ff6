-- What the proofs of several functions use.
mod FieldLaws
mod ValueLaws
