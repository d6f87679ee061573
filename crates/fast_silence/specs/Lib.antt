pub mod Rested
pub mod Jump
pub mod Bound
