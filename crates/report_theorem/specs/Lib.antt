pub mod Whole
pub mod Cut
pub mod Along
