pub mod Fields
pub mod Text
pub mod Answered
pub mod Stream
