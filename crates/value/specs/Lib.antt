pub mod Mask
pub mod Walk
