pub mod Table
pub mod Closed
pub mod Steps
pub mod Reading
pub mod Value
pub mod Lines
pub mod Stable
