-- What the proofs of several functions use.
mod OpenLaws
mod SeedLaws
