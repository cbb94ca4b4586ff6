pub mod Reasons
pub mod Handling
