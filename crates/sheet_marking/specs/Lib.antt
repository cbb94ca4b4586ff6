pub mod Answer
pub mod Counts
pub mod Fault
pub mod Marking
