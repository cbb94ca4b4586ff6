pub mod Bit
pub mod Sum
