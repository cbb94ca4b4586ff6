pub mod Word
pub mod Fill
