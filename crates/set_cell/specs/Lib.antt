pub mod Places
pub mod Setting
