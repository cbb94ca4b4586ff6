pub mod Layout
pub mod Slab
pub mod Ready
