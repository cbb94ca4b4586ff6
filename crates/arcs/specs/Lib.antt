pub mod Arc
pub mod Sunk
pub mod Kill
pub mod Sweep
pub mod Have
