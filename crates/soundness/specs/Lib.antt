pub mod SameGrids
pub mod Marks
pub mod Greatest
