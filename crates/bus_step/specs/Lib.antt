pub mod Counters
pub mod Step
pub mod StepLaws
pub mod Front
