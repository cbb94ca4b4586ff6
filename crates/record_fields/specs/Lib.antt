pub mod Calls
pub mod Fields
pub mod Recorded
