pub mod TextCalls
pub mod TextCallLaws
pub mod TextCallTheorems
