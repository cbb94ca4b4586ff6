pub mod Flow
pub mod Update
