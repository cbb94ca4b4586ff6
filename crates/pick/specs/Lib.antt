pub mod Choice
pub mod Scanning
