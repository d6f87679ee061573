pub mod Limits
pub mod Build
pub mod BuildLaws
