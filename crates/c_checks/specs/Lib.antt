pub mod CheckCalls
pub mod CheckCallLaws
pub mod CheckCallTheorems
