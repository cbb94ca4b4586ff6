pub mod Remaining
pub mod Split
