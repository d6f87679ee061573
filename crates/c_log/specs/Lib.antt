pub mod LogCalls
pub mod LogCallTheorems
