pub mod Accepted
pub mod Stands
