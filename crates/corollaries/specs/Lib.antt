pub mod Acceptance
pub mod CountLaws
pub mod VerdictLaws
pub mod SheetLaws
pub mod ShownLaws
pub mod TableLaws
pub mod UnitLaws
