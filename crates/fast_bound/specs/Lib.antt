pub mod Foresee
pub mod Bound
pub mod WindowLaws
