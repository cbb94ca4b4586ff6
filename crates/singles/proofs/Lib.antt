-- What the proofs of several functions use.
mod BlackLaws
mod ConsistencyLaws
mod FindLaws
mod HalfLaws
pub mod HandlingLaws
mod HiddenLaws
mod LoneBit
mod PlaceLaws
mod ReasonLaws
mod SingletonLaws
