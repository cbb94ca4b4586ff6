pub mod MarkLaws
pub mod NumberLaws
pub mod CapLaws
pub mod VerdictLaws
