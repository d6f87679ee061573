pub mod Draws
pub mod DrawsLaws
