-- What the proofs of several functions use.
pub mod Arranged
pub mod Filled
pub mod Followed
pub mod Found
pub mod GridLines
pub mod Half
pub mod Lists
pub mod Own
pub mod Parts
pub mod Pigeonhole
pub mod SettledLine
mod Subsets
pub mod Values
pub mod CellValues
pub mod LineNumbers
