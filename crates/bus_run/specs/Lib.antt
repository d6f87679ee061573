pub mod Advance
pub mod AdvanceLaws
