pub mod Grow
pub mod Cells
pub mod Whole
