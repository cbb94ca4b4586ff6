pub mod Lanes
pub mod Rows
