pub mod Limits
pub mod Layout
pub mod Check
pub mod Fit
pub mod CheckLaws
