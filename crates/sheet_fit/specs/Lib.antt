pub mod Margin
pub mod MarginLaws
pub mod MarginTheorems
