pub mod Asked
pub mod Prepared
