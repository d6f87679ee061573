pub mod Marks
pub mod MarkTheorems
