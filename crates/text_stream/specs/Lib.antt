pub mod Fed
pub mod Put
pub mod Stream
