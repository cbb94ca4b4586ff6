-- What the proofs of several functions use.
pub mod MaskBits
mod PlaceLaws
pub mod SetLaws
pub mod SettingLaws
