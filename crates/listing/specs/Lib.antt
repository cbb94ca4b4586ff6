pub mod Numbers
pub mod Sides
pub mod Listing
