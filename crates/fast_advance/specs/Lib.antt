pub mod Advance
pub mod AdvanceLaws
pub mod OnwardLaws
