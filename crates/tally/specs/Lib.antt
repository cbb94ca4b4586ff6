pub mod Tally
pub mod Way
