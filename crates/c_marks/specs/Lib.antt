pub mod MarkCalls
pub mod MarkCallTheorems
