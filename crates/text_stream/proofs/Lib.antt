-- What the proofs of several functions use.
mod FedLaws
mod PutLaws
mod StreamLaws
